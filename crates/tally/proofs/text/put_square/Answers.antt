-- Five lines are written one after the other.
use Rattle.tally.specs.Page.{wrote_more}
use Rattle.tally.specs.Text.{square}
use Rattle.tally.proofs.text.put_square.Goals as goal

pub returns : goal.returns
unfolding square
returns c =
    let two = wrote_more c.put_line-a.ensures.wrote c.put_line-b.ensures.wrote in
    let four = wrote_more (wrote_more two c.put_line-c.ensures.wrote) c.put_line-d.ensures.wrote in
    wrote_more four c.put_line.ensures.wrote
