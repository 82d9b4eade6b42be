-- The steps of an entry, each as the rules have it: where the feed submits nothing, its security is all.
use Rattle.std.proofs.Common.{rules}
use Rattle.applied.specs.Apply.{entry_applied, entry_asking, entry_known, entry_quiet, entry_room, entry_volume}
use Rattle.applied.proofs.apply.Goals as goal

pub quote-requires : goal.quote-requires
quote-requires c =
    let e = c.typed_at-entry.ensures in
    record {
      ready = c.requires.ready;
      book_value = entry_known c.requires e;
      shares_bound = entry_volume c.requires e;
    }

pub returns-then-trades-eq0 : goal.returns-then-trades-eq0
returns-then-trades-eq0 c =
    entry_quiet c.requires c.typed_at-entry.ensures _ c.quote.ensures.book_after (search rules) c.quote.ensures.ready_2

pub submits-n-requires : goal.submits-n-requires
submits-n-requires c = (c.quote.ensures.ready_2.directory.listed, c.requires.inside)

pub submit_all-requires : goal.submit_all-requires
submit_all-requires c =
    let e = c.typed_at-entry.ensures in
    let q = c.quote.ensures in
    let g = c.submits-n.ensures in
    let few = g.few in
    let most = q.ready_2.directory.listed.few in
    record {
      ready = (q.ready_2, entry_room c.requires e q.book_after g (search rules), search rules);
      asking = entry_asking c.requires e q.book_after g;
    }

pub returns : goal.returns
returns c =
    let e = c.typed_at-entry.ensures in
    let q = c.quote.ensures in
    let g = c.submits-n.ensures in
    let few = g.few in
    let most = q.ready_2.directory.listed.few in
    let sent = c.submit_all.ensures in
    entry_applied c.requires e q.book_after g (search rules) sent.book_after sent.ready_2.0 sent.ready_2.1
