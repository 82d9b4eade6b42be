-- "Status numbers, in order of checking." Each status has this paper's number, here and nowhere else. Assumes nothing.
use Rattle.std.specs.Prelude.{Bool, true, false, ℕ, ℤ, pos, neg_ℤ}
use Rattle.model.specs.declared.Status.{Status}
use Rattle.model.specs.declared.Status.TheVariants.{BadBook, BadInput, BadLength, Done, FeedNoSecurity}
use Rattle.model.specs.declared.Status.TheVariants.{LookupNoTrade, NoRoom, OrderNoAccount, OrderNoBand}
use Rattle.model.specs.declared.Status.TheVariants.{OrderNoCharge, OrderNoRate, OrderNoSecurity, OrderNoTax}
use Rattle.model.specs.declared.Status.TheVariants.{OrderNotPermitted, OverLimit, ResultNoBand, ResultNoRate}
use Rattle.model.specs.declared.Status.TheVariants.{ResultNoTax, ResultNoTrade, ResultNotSubmitted, Unsound}

-- -n, for n above zero
abbrev minus : ℕ → ℤ
minus n = neg_ℤ (pos n)

abbrev pub number : Status → ℤ
number Done = pos 0
number BadLength = minus 100
number BadBook = minus 101
number Unsound = minus 102
number BadInput = minus 103
number OverLimit = minus 104
number NoRoom = minus 105
number OrderNoAccount = minus 711
number OrderNotPermitted = minus 721
number OrderNoSecurity = minus 712
number OrderNoTax = minus 731
number OrderNoRate = minus 732
number OrderNoBand = minus 735
number OrderNoCharge = minus 733
number ResultNoTrade = minus 811
number ResultNotSubmitted = minus 812
number ResultNoTax = minus 831
number ResultNoRate = minus 841
number ResultNoBand = minus 842
number FeedNoSecurity = minus 311
number LookupNoTrade = minus 611

abbrev pub is_done : Status → Bool
is_done Done = true
is_done BadLength = false
is_done BadBook = false
is_done Unsound = false
is_done BadInput = false
is_done OverLimit = false
is_done NoRoom = false
is_done OrderNoAccount = false
is_done OrderNotPermitted = false
is_done OrderNoSecurity = false
is_done OrderNoTax = false
is_done OrderNoRate = false
is_done OrderNoBand = false
is_done OrderNoCharge = false
is_done ResultNoTrade = false
is_done ResultNotSubmitted = false
is_done ResultNoTax = false
is_done ResultNoRate = false
is_done ResultNoBand = false
is_done FeedNoSecurity = false
is_done LookupNoTrade = false
