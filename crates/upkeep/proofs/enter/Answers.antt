-- The cell before the place leads past it, and then to it.
use Rattle.std.proofs.Common.{rules}
use Rattle.upkeep.specs.Moves.{bucket_of_holds, comes_in, leads_of, without_rises}
use Rattle.upkeep.proofs.enter.Goals as goal

pub before-x-requires : goal.before-x-requires
before-x-requires c = search (rules, without_rises)

pub returns : goal.returns
returns c =
    let s = c.requires in
    let x = c.before-x.ensures in
    comes_in s (leads_of s x.0 x.1)
    (bucket_of_holds _ _ _ c.row_at.ensures c.of.ensures c.bucket-bucket.ensures.0)
    c.link.ensures
