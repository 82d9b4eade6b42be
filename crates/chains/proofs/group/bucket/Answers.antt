-- The hash is below 2^32, so its product with the number of other buckets fits, and its upper half is one of them.
use Rattle.std.proofs.Common.{refl, sym, arith, eq-eqb}
use Rattle.chains.specs.Group.{a_bucket, free_bucket}
use Rattle.chains.proofs.group.bucket.Goals as goal

pub returns-then-group-eq-FREE : goal.returns-then-group-eq-FREE
returns-then-group-eq-FREE c =
    (sym (free_bucket _ c.args.group (eq-eqb _ _ c.if-group-eq-FREE.true)), omega arith)

pub returns : goal.returns
returns c = a_bucket c.args.group c.requires.0 c.if-group-eq-FREE.false c.hash.ensures.0 refl
