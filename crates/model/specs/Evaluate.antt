-- The calls, opened: to unfold one of these is to unfold all that the rules are made of, so that a closed case
-- computes. Assumes nothing.
use Rattle.std.specs.Prelude.{Bool, List, ℕ}
use Rattle.laws.specs.Search.{count, every, keep, largest, run, sum_z, the, total}
use Rattle.laws.specs.Sort.{insert, sort}
use Rattle.laws.specs.Change.{fill, put, puts, written}
use Rattle.laws.specs.Chunk.{chunk, joined}
use Rattle.record.specs.Grid.{decode, encode}
use Rattle.keys.specs.Key.{key_of, same_key}
use Rattle.record.specs.Spelling.{symbol_ok}
use Rattle.record.specs.Symbol.{same_symbol}
use Rattle.record.specs.declared.row.Row.{Row}
use Rattle.rules.specs.Ranges
use Rattle.rules.specs.Signed.{near}
use Rattle.rules.specs.Rules.{fits, obeys, free_shape, broker_shape, customer_shape, tax_rate_shape}
use Rattle.rules.specs.Rules.{customer_rate_shape, account_shape, security_shape, band_shape, charge_shape}
use Rattle.rules.specs.Rules.{trade_shape, request_shape, trade_history_shape, lot_shape, summary_shape}
use Rattle.rules.specs.Rules.{lot_history_shape, settlement_shape, cash_shape, permission_shape, order_input_shape}
use Rattle.rules.specs.Rules.{result_input_shape, feed_input_shape, lookup_input_shape}
use Rattle.model.specs.Band.{band_answer}
use Rattle.model.specs.Call as call
use Rattle.model.specs.Call.{Reply, feed_call, lookup_call, order_call, refusal_area, replied, result_call, shell}
use Rattle.model.specs.Feed as feed
use Rattle.model.specs.Feed.{applied, submits, swept}
use Rattle.model.specs.Lookup as lookup
use Rattle.model.specs.Lookup.{looked}
use Rattle.model.specs.Lots.{closings, lots_for, walk}
use Rattle.model.specs.Money.{commission_of, settlement_of, tax_of, taxable, untaxed}
use Rattle.model.specs.Names.{named}
use Rattle.model.specs.Order as order
use Rattle.model.specs.Plan.{also, decided, posted, room, verdict}
use Rattle.model.specs.Result as result
use Rattle.model.specs.Rows.{bytes, found, has_key, rows, same_row, there, whole_records}
use Rattle.model.specs.Sound.{rates_of, s1, s10, s2, s3, s4, s5, s6, s7, s8, s9, sound}
use Rattle.model.specs.Tally.{tallied, tally}

-- ---- bundles: to unfold one is to unfold what its line names
unfoldable lists_opened : ℕ
unfolding the every keep total count sum_z largest run insert sort put puts fill written chunk joined
lists_opened = 0

unfoldable grid_opened : ℕ
unfolding decode encode key_of same_key same_symbol rows bytes whole_records same_row has_key found there named
grid_opened = 0

unfoldable fields_opened : ℕ
unfolding Ranges.limited near symbol_ok
fields_opened = 0

unfoldable kinds_opened : ℕ
unfolding fits obeys free_shape broker_shape customer_shape tax_rate_shape customer_rate_shape account_shape security_shape
kinds_opened = 0

unfoldable more_kinds_opened : ℕ
unfolding band_shape charge_shape trade_shape request_shape trade_history_shape lot_shape summary_shape lot_history_shape
more_kinds_opened = 0

unfoldable last_kinds_opened : ℕ
unfolding settlement_shape cash_shape permission_shape order_input_shape result_input_shape feed_input_shape lookup_input_shape
last_kinds_opened = 0

unfoldable soundness_opened : ℕ
unfolding rates_of s1 s2 s3 s4 s5 s6 s7 s8 s9 s10 sound
soundness_opened = 0

unfoldable rules_opened : ℕ
unfolding lists_opened grid_opened fields_opened kinds_opened more_kinds_opened last_kinds_opened soundness_opened
rules_opened = 0

unfoldable shell_opened : ℕ
unfolding rules_opened shell replied refusal_area also verdict room decided
shell_opened = 0

unfoldable money_opened : ℕ
unfolding commission_of settlement_of tax_of taxable untaxed
money_opened = 0

unfoldable posting_opened : ℕ
unfolding shell_opened money_opened band_answer closings lots_for walk posted
posting_opened = 0

-- ---- the calls
unfoldable pub sound_opened : List Row → Bool
unfolding rules_opened
sound_opened rs = sound rs

unfoldable pub order_opened : List ℕ → List ℕ → List ℕ → Reply
unfolding posting_opened order.next_number order.permitted order.view order.posting order.checks order.order call.run
order_opened b i a = order_call b i a

unfoldable pub result_opened : List ℕ → List ℕ → List ℕ → Reply
unfolding posting_opened result.view result.figures result.posting result.checks result.result call.run
result_opened b i a = result_call b i a

unfoldable pub feed_opened : List ℕ → List ℕ → List ℕ → Reply
unfolding shell_opened applied feed.checks feed.feed submits swept call.run
feed_opened b i a = feed_call b i a

unfoldable pub lookup_opened : List ℕ → List ℕ → List ℕ → Reply
unfolding shell_opened looked lookup.checks lookup.lookup call.run
lookup_opened b i a = lookup_call b i a

unfoldable pub tally_opened : List Row → List (List ℕ)
unfolding lists_opened tallied tally
tally_opened rs = tally rs
