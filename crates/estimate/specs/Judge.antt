-- The rows that an order adds, counted, and the status of its checks, as the code comes to it. Assumes nothing.
use Rattle.std.specs.Prelude.{◌≡◌, cond, not, List, [], ◌∷◌, ℕ, ◌≤◌, ◌<◌, leb}
use Rattle.std.proofs.Common.{le-leb}
use Rattle.std.proofs.lemmas.Bool.{lt-leb}
use Rattle.laws.specs.Search.{run}
use Rattle.record.specs.Codes.{tms}
use Rattle.record.specs.Signed.{up}
use Rattle.kinds.specs.declared.inputs.OrderInput.{OrderInput}
use Rattle.rules.specs.Ranges.{trade_number}
use Rattle.model.specs.declared.Status.{Status}
use Rattle.model.specs.declared.Status.TheVariants.{Done, NoRoom, OrderNoAccount, OrderNoBand, OrderNoCharge}
use Rattle.model.specs.declared.Status.TheVariants.{OrderNoRate, OrderNoSecurity, OrderNoTax, OrderNotPermitted}
use Rattle.model.specs.declared.Status.TheVariants.{OverLimit}
use Rattle.model.specs.Band.{no_band, zero_rate}
use Rattle.model.specs.Plan.{Check, also, check, verdict}
use Rattle.estimate.specs.declared.figures.Estimate.{Estimate}
use Rattle.estimate.specs.declared.terms.Terms.{Terms}

-- a trade and its history, and for an order that waits its request
abbrev pub rows_added : OrderInput → ℕ
rows_added i = cond (leb i.trade_type tms) 2 3

pub two_added : (i : OrderInput) → i.trade_type ≤ tms → 2 ≡ rows_added i
two_added i h = rw (le-leb i.trade_type tms h)

pub three_added : (i : OrderInput) → tms < i.trade_type → 3 ≡ rows_added i
three_added i h = rw (lt-leb i.trade_type tms h)

-- what an order alone is refused for
abbrev pub own_checks : Terms → Estimate → List Check
own_checks t e =
    check t.holder.known OrderNoAccount
    ∷ check t.permitted OrderNotPermitted
    ∷ check t.paper.known OrderNoSecurity
    ∷ check (not e.untaxed) OrderNoTax
    ∷ check (not (zero_rate t.band)) OrderNoRate
    ∷ check (not (no_band t.band)) OrderNoBand
    ∷ check (leb 1 (up t.charge.0)) OrderNoCharge
    ∷ []

-- and, last, the limit and the room
unfoldable pub judged : ℕ → OrderInput → Terms → Estimate → Status
judged free i t e =
    also (also (verdict (own_checks t e)) (leb t.number.0 trade_number.high) OverLimit)
    (leb (rows_added i) free) NoRoom

pub own_judged : (t : Terms) (e : Estimate) {s1 s2 s3 s4 s5 s6 : Status} {c : ℕ}
    → s1 ≡ also Done t.holder.known OrderNoAccount
    → s2 ≡ also s1 t.permitted OrderNotPermitted
    → s3 ≡ also s2 t.paper.known OrderNoSecurity
    → s4 ≡ also s3 (not e.untaxed) OrderNoTax
    → s5 ≡ also (also s4 (not (zero_rate t.band)) OrderNoRate) (not (no_band t.band)) OrderNoBand
    → c ≡ up t.charge.0
    → s6 ≡ also s5 (leb 1 c) OrderNoCharge
    → s6 ≡ verdict (own_checks t e)
unfolding verdict run
own_judged t e a p b c d k f = rw (f, k, d, c, b, p, a)
