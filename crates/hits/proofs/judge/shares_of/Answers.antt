-- An entry's shares are four bytes of its record.
use Rattle.hits.specs.Judge.{shares_read}
use Rattle.hits.proofs.judge.shares_of.Goals as goal

pub returns : goal.returns
returns c = shares_read _ _ (λ j. (c.type_inv.input j).fits) c.entry_at.ensures
