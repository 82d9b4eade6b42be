-- A record that passes leaves the rest to decide; one that does not decides.
use Rattle.std.proofs.Common.{refl}
use Rattle.places.specs.Loop.{check_all, check_fails, check_more}
use Rattle.places.proofs.each.every.Goals as goal

pub returns-then-not-test : goal.returns-then-not-test
returns-then-not-test g c = λ p tells.
    let here = rw c.places-i-end.ensures at c.loop-i-test.true in
    check_fails (c.loop-i.invariant p tells) here refl (tells _ _ here c.test.ensures) c.if-not-test.true

pub loop-i-preserved : goal.loop-i-preserved
loop-i-preserved g c = λ p tells.
    let here = rw c.places-i-end.ensures at c.loop-i-test.true in
    check_more (c.loop-i.invariant p tells) here refl (tells _ _ here c.test.ensures) c.if-not-test.false

pub returns : goal.returns
returns g c = λ p tells. check_all (c.loop-i.invariant p tells) (rw c.places-i-end.ensures at c.loop-i-test.false)
