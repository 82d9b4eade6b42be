-- Without a summary there is no lot; else they are gathered.
use Rattle.reading.specs.Lots.{all_held, none_held}
use Rattle.reading.proofs.lots.lots_of.Goals as goal

pub returns-then-terms : goal.returns-then-terms
returns-then-terms c = all_held c.args.terms c.of-sought.ensures c.gather.ensures

pub returns : goal.returns
returns c = none_held _ _ c.args.terms c.requires.book_value.0 c.requires.book_value.1 c.if-terms.false
