-- The code, three counts and the line's end are written one after the other.
use Rattle.tally.specs.Page.{wrote_more}
use Rattle.tally.specs.Text.{line}
use Rattle.tally.proofs.text.put_line.Goals as goal

pub returns-clause-wrote : goal.returns-clause-wrote
unfolding line
returns-clause-wrote c =
    let one = wrote_more c.put-a.ensures c.put_count-b.ensures.wrote in
    let three = wrote_more (wrote_more one c.put_count-c.ensures.wrote) c.put_count-d.ensures.wrote in
    wrote_more three c.put_byte.ensures
