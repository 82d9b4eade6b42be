-- Summary, account, trade and broker, one after the other.
use Rattle.changed.specs.Change.{all_changed, first_change, fourth_change, second_change, third_change}
use Rattle.changed.proofs.change_rows.Goals as goal

pub change_summary-requires : goal.change_summary-requires
change_summary-requires c = first_change c.args.input c.args.terms c.args.figures c.requires.ready

pub change_account-requires : goal.change_account-requires
change_account-requires c =
    second_change c.args.input c.args.terms c.args.figures c.requires.ready c.change_summary.ensures

pub change-requires-clause-row_value : goal.change-requires-clause-row_value
change-requires-clause-row_value c =
    let asks =
    third_change c.args.input c.args.terms c.args.figures c.requires.ready c.change_summary.ensures
    c.change_account.ensures c.trade_after-done.ensures
    in
    asks.1

pub change-requires-2-clause-row_value : goal.change-requires-2-clause-row_value
change-requires-2-clause-row_value c =
    let three = c.change.ensures in
    let asks =
    fourth_change c.args.input c.args.terms c.args.figures c.requires.ready c.change_summary.ensures
    c.change_account.ensures c.trade_after-done.ensures (three.book_after, three.directory_2)
    c.broker_after.ensures
    in
    asks.1

pub returns : goal.returns
returns c =
    let three = c.change.ensures in
    let four = c.change-2.ensures in
    all_changed c.args.input c.args.terms c.args.figures c.change_summary.ensures c.change_account.ensures
    c.trade_after-done.ensures (three.book_after, three.directory_2) c.broker_after.ensures
    (four.book_after, four.directory_2)
