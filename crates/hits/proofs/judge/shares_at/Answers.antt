-- The test of the symbol decides in the code as in the contract; the shares are four bytes.
use Rattle.record.specs.Symbol.{same_symbol}
use Rattle.hits.specs.Judge.{shares_here, shares_none}
use Rattle.hits.proofs.judge.shares_at.Goals as goal

pub returns-then-eq : goal.returns-then-eq
unfolding same_symbol
returns-then-eq c =
    shares_here _ _ (λ j. (c.type_inv.input j).fits) c.typed_at-entry.ensures _ c.eq.ensures c.if-eq.true

pub returns-else-eq : goal.returns-else-eq
unfolding same_symbol
returns-else-eq c =
    shares_none _ _ (λ j. (c.type_inv.input j).fits) c.typed_at-entry.ensures _ c.eq.ensures c.if-eq.false
