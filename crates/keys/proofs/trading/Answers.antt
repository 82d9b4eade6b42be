-- Each kind's marks join those of the kinds behind it in the table, as `marks_of` does.
use Rattle.keys.specs.Marks.{no_marks_holds, one_more}
use Rattle.keys.proofs.trading.Goals as goal

pub returns : goal.returns
returns c =
    one_more _ _ _ c.or.ensures
    (one_more _ _ _ c.or-m-8.ensures
    (one_more _ _ _ c.or-m-7.ensures
    (one_more _ _ _ c.or-m-6.ensures
    (one_more _ _ _ c.or-m-5.ensures
    (one_more _ _ _ c.or-m-4.ensures
    (one_more _ _ _ c.or-m-3.ensures
    (one_more _ _ _ c.or-m-2.ensures
    (one_more _ _ _ c.or-m.ensures
    (no_marks_holds _)))))))))
