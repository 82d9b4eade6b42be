-- Each kind of input as the values that its fields mean. Assumes nothing.
use Rattle.std.specs.Prelude.{pos}
use Rattle.units.specs.Units.{shares}
use Rattle.record.specs.declared.row.Row.{Row}
use Rattle.kinds.specs.declared.inputs.OrderInput.{OrderInput}
use Rattle.kinds.specs.declared.inputs.ResultInput.{ResultInput}
use Rattle.kinds.specs.declared.inputs.FeedInput.{FeedInput}
use Rattle.kinds.specs.declared.inputs.LookupInput.{LookupInput}

unfoldable pub order_input_of : Row → OrderInput
order_input_of r = record {
  trade_type = r.form;
  flags = r.flags;
  account = record { 0 = r.party };
  symbol = r.symbol;
  shares = shares (pos r.n1);
  bid = record { 0 = r.n2 };
  executor = record { 0 = r.n3 };
  time = record { 0 = r.time };
}

unfoldable pub result_input_of : Row → ResultInput
result_input_of r = record {
  trade = record { 0 = r.id };
  price = record { 0 = r.n1 };
  time = record { 0 = r.time };
}

unfoldable pub feed_input_of : Row → FeedInput
feed_input_of r = record {
  symbol = r.symbol;
  price = record { 0 = r.n1 };
  shares = shares (pos r.n2);
  time = record { 0 = r.time };
}

unfoldable pub lookup_input_of : Row → LookupInput
lookup_input_of r = record {
  trade = record { 0 = r.id };
}
