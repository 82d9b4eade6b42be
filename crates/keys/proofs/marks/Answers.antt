-- Each kind's marks join those of the kinds behind it in the table, as `marks_of` does.
use Rattle.keys.specs.Marks.{one_more}
use Rattle.keys.proofs.marks.Goals as goal

pub returns : goal.returns
returns c =
    one_more _ _ _ c.or.ensures
    (one_more _ _ _ c.or-m-7.ensures
    (one_more _ _ _ c.or-m-6.ensures
    (one_more _ _ _ c.or-m-5.ensures
    (one_more _ _ _ c.or-m-4.ensures
    (one_more _ _ _ c.or-m-3.ensures
    (one_more _ _ _ c.or-m-2.ensures
    (one_more _ _ _ c.or-m.ensures
    c.trading-m.ensures)))))))
