-- The lots' shares on each side of zero, and the summary's.
use Rattle.std.proofs.Common.{rules, SFits, w64}
use Rattle.by_group.specs.Rules.{comes_to_holds, same_bits}
use Rattle.by_group.proofs.summed.Goals as goal

pub returns : goal.returns
returns c =
    let held = c.holding-h.ensures in
    let left : SFits w64 c.less-left.result.0 = search rules in
    let own : SFits w64 c.args.s.shares.0 = search rules in
    comes_to_holds _ _ _ _ held.lots_value held.holds_side held.holds_side_2 c.less-left.ensures.value
    (same_bits _ _ left own) c.plain.ensures.value c.plain-2.ensures.value
