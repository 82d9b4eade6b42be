-- What the rules look at, told apart from what is looked up: the requests that agree with a trade, of a broker, and the
-- rates of a customer, of a table. Assumes nothing.
use Rattle.std.specs.Prelude.{◌≡◌, Bool, false, cond, ◌&&◌, List, ℕ, eqb}
use Rattle.std.proofs.Common.{ap, ◌∙◌, ne_eqb}
use Rattle.laws.specs.Search.{total}
use Rattle.record.specs.Codes.{kind_customer_rate, kind_request}
use Rattle.record.specs.Symbol.{same_symbol}
use Rattle.record.specs.declared.row.Row.{Row}
use Rattle.model.specs.Names.{a_request, a_tax_rate}
use Rattle.model.specs.Rows.{found, has_key, is}
use Rattle.model.specs.Sound.{rates_of}
use Rattle.facts.specs.Keys.{OfKind, key_of_holds}

-- a request that agrees with a trade of an account with this broker
abbrev pub agrees_by : ℕ → Row → Row → Bool
agrees_by broker t r =
    has_key (a_request t.id) r && eqb r.form t.form && same_symbol r.symbol t.symbol && eqb r.n1 t.n1
    && eqb r.n2 t.n2 && eqb r.party broker

pub agrees_not : (broker : ℕ) (t r : Row) → has_key (a_request t.id) r ≡ false → agrees_by broker t r ≡ false
agrees_not broker t r e = rw e

pub agrees_of : (broker : ℕ) (t : Row) → OfKind kind_request (agrees_by broker t)
agrees_of broker t r n = agrees_not broker t r (key_of_holds (a_request t.id) r n)

-- a customer's rates, where the same rates are found and what only such rows count for is summed alike
pub rates_alike : (l rs : List Row) → ((i : ℕ) → found (a_tax_rate i) l ≡ found (a_tax_rate i) rs)
    → ((μ : Row → ℕ) → ((x : Row) → (x.kind ≡ kind_customer_rate → ⊥) → μ x ≡ 0) → total μ l ≡ total μ rs)
    → (customer : ℕ) → rates_of l customer ≡ rates_of rs customer
unfolding rates_of
rates_alike l rs same sums customer =
    ap (λ (f : ℕ → ℕ). total (rate_by f) l) (λ i m. (same m i).n1)
    ∙ sums (rate_by (λ m. (found (a_tax_rate m) rs).n1)) (λ x n. rw (ne_eqb x.kind kind_customer_rate n))
  where
    rate_by : (ℕ → ℕ) → Row → ℕ
    rate_by rate x = cond (is kind_customer_rate x && eqb x.party customer) (rate x.n1) 0
