-- Each turn adds what its record adds, to the count and to both sums; a link skips only rows that add nothing.
use Rattle.std.proofs.Common.{refl, false, true, rules}
use Rattle.laws.specs.Search.{count}
use Rattle.rules.specs.Ranges.{shares_most}
use Rattle.directory.specs.Listed.{tally_all, tally_start, walks}
use Rattle.groups.specs.Sums.{fits_there, gather_all, gather_more, lots_counted, shares_counted}
use Rattle.groups.proofs.sums.holding.Goals as goal

pub loop-at-init : goal.loop-at-init
unfolding count
loop-at-init c =
    let s = c.requires.listed in
    let a = c.args.account.0 in
    let y = c.args.symbol in
    let g = c.lots_of-lots.ensures in
    let e = c.first-at.ensures in (
      tally_start s _ 1 (lots_counted a y) g e,
      (
        record { sum = tally_start s _ shares_most (shares_counted false a y) g e; whole = refl },
        record { sum = tally_start s _ shares_most (shares_counted true a y) g e; whole = refl },
      ),
    )

pub added-more-requires : goal.added-more-requires
added-more-requires c = (search rules, fits_there _ _ c.requires.book_value (search rules))

pub loop-at-smaller : goal.loop-at-smaller
loop-at-smaller c = search (rules, walks)

pub loop-at-preserved : goal.loop-at-preserved
loop-at-preserved c =
    let s = c.requires.listed in
    let inv = c.loop-at.invariant.1 in
    let more = c.added-more.ensures in (
      search (rules, walks),
      (
        gather_more inv.0 s (search rules) more.adds_side c.plus-long.ensures.value c.next-at.ensures,
        gather_more inv.1 s (search rules) more.adds_side_2 c.plus-owed.ensures.value c.next-at.ensures,
      ),
    )

pub returns : goal.returns
returns c =
    let inv = c.loop-at.invariant in
    let few = c.requires.listed.few in
    record {
      lots_value = tally_all inv.0 (search rules);
      holds_side = gather_all inv.1.0 few (search rules);
      holds_side_2 = gather_all inv.1.1 few (search rules);
    }
