-- The tests in turn, each on what the ones before it gave.
use Rattle.rules.specs.Beyond.{with_symbol, without_symbol}
use Rattle.rules.proofs.obey.beyond.Goals as goal

pub returns-then-t3-u : goal.returns-then-t3-u
returns-then-t3-u c =
    with_symbol _ _ _ c.compared-t1.ensures c.bound64-t2.ensures c.bound32-t3.ensures c.if-t3-u.true c.spelled.ensures

pub returns : goal.returns
returns c = without_symbol _ _ _ c.compared-t1.ensures c.bound64-t2.ensures c.bound32-t3.ensures c.if-t3-u.false
