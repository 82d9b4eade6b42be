-- The rows of a key that is a number, a symbol or both, by the fields that tell them. Assumes nothing.
use Rattle.std.specs.Prelude.{◌≡◌, refl, Bool, true, false, ◌&&◌, ◌||◌, List, [], ◌∷◌, ℕ, eqb}
use Rattle.std.proofs.Common.{sym, subst, ◌∙◌, ⊎_elim, eq-eqb, eqb-true}
use Rattle.laws.specs.Tests.{and_assoc, and_true, or_cases}
use Rattle.record.specs.Codes.{kind_account, kind_broker, kind_cash, kind_customer, kind_lot, kind_request, kind_security}
use Rattle.record.specs.Codes.{kind_permission, kind_settlement, kind_summary, kind_tax_rate, kind_trade, kind_trade_history}
use Rattle.keys.specs.Key.{among, key_of, same_key}
use Rattle.record.specs.Symbol.{same_symbol}
use Rattle.keys.specs.declared.Key.{Key}
use Rattle.record.specs.declared.row.Row.{Row}
use Rattle.record.specs.declared.symbol.Symbol.{Symbol}
use Rattle.model.specs.Names.{a_history, a_permission, a_security, a_summary, by_id, by_party}
use Rattle.model.specs.Rows.{has_key, is}

abbrev pub of_id : ℕ → ℕ → Row → Bool
of_id kind id r = is kind r && eqb r.id id

abbrev pub of_party : ℕ → ℕ → Row → Bool
of_party kind party r = is kind r && eqb r.party party

abbrev of_symbol : ℕ → Symbol → Row → Bool
of_symbol kind symbol r = is kind r && same_symbol r.symbol symbol

abbrev pub id_kinds : List ℕ
id_kinds = kind_trade ∷ kind_request ∷ kind_settlement ∷ kind_cash ∷ kind_lot ∷ []

abbrev pub party_kinds : List ℕ
party_kinds = kind_broker ∷ kind_customer ∷ kind_tax_rate ∷ kind_account ∷ []

-- what holds at a kind holds at one that is equal to it, and so at one that is among four or five
at_equal : (P : ℕ → Type 0) (k n : ℕ) → P n → eqb k n ≡ true → P k
at_equal P k n p x = subst P (sym (eqb-true k n x)) p

pub of_four : (P : ℕ → Type 0) (k a b c d : ℕ) → P a → P b → P c → P d
    → among k (a ∷ b ∷ c ∷ d ∷ []) ≡ true → P k
of_four P k a b c d pa pb pc pd e =
    ⊎_elim
    (λ abc. ⊎_elim
    (λ ab. ⊎_elim (at_equal P k a pa) (at_equal P k b pb) (or_cases (eqb k a) (eqb k b) ab))
    (at_equal P k c pc)
    (or_cases (eqb k a || eqb k b) (eqb k c) abc))
    (at_equal P k d pd)
    (or_cases (eqb k a || eqb k b || eqb k c) (eqb k d) e)

pub of_five : (P : ℕ → Type 0) (k a b c d f : ℕ) → P a → P b → P c → P d → P f
    → among k (a ∷ b ∷ c ∷ d ∷ f ∷ []) ≡ true → P k
of_five P k a b c d f pa pb pc pd pf e =
    ⊎_elim (of_four P k a b c d pa pb pc pd) (at_equal P k f pf) (or_cases (among k (a ∷ b ∷ c ∷ d ∷ [])) (eqb k f) e)

-- a row has a key where its kind is the key's and what is left of the key fits
of_kind : (r : Row) (k : Key) (x : Bool) → (r.kind ≡ k.kind → same_key (key_of r) k ≡ x)
    → has_key k r ≡ (is k.kind r && x)
unfolding has_key same_key key_of same_symbol
of_kind r k x h = go (eqb r.kind k.kind) refl
  where
    go : (t : Bool) → eqb r.kind k.kind ≡ t → has_key k r ≡ (is k.kind r && x)
    go true e = h (eqb-true r.kind k.kind e) ∙ rw e
    go false e = rw e

abbrev ById : ℕ → Type 0
ById k = (i : ℕ) (r : Row) → has_key (by_id k i) r ≡ of_id k i r

pub by_id_holds : (k : ℕ) → among k id_kinds ≡ true → ById k
unfolding same_key key_of same_symbol
by_id_holds k e =
    of_five ById k kind_trade kind_request kind_settlement kind_cash kind_lot
    (λ i r. of_kind r (by_id kind_trade i) (eqb r.id i) (λ h. rw h (simp and_true)))
    (λ i r. of_kind r (by_id kind_request i) (eqb r.id i) (λ h. rw h (simp and_true)))
    (λ i r. of_kind r (by_id kind_settlement i) (eqb r.id i) (λ h. rw h (simp and_true)))
    (λ i r. of_kind r (by_id kind_cash i) (eqb r.id i) (λ h. rw h (simp and_true)))
    (λ i r. of_kind r (by_id kind_lot i) (eqb r.id i) (λ h. rw h (simp and_true)))
    e

abbrev ByParty : ℕ → Type 0
ByParty k = (p : ℕ) (r : Row) → has_key (by_party k p) r ≡ of_party k p r

pub by_party_holds : (k : ℕ) → among k party_kinds ≡ true → ByParty k
unfolding same_key key_of same_symbol
by_party_holds k e =
    of_four ByParty k kind_broker kind_customer kind_tax_rate kind_account
    (λ p r. of_kind r (by_party kind_broker p) (eqb r.party p) (λ h. rw h (simp and_true)))
    (λ p r. of_kind r (by_party kind_customer p) (eqb r.party p) (λ h. rw h (simp and_true)))
    (λ p r. of_kind r (by_party kind_tax_rate p) (eqb r.party p) (λ h. rw h (simp and_true)))
    (λ p r. of_kind r (by_party kind_account p) (eqb r.party p) (λ h. rw h (simp and_true)))
    e

pub by_symbol_holds : (s : Symbol) (r : Row) → has_key (a_security s) r ≡ of_symbol kind_security s r
unfolding same_key key_of same_symbol
by_symbol_holds s r = of_kind r (a_security s) (same_symbol r.symbol s) (λ h. rw h (simp and_true))

pub by_holder : (a : ℕ) (s : Symbol) (r : Row)
    → has_key (a_summary a s) r ≡ (of_party kind_summary a r && same_symbol r.symbol s)
unfolding same_key key_of same_symbol
by_holder a s r =
    of_kind r (a_summary a s) (eqb r.party a && same_symbol r.symbol s)
    (λ h. rw h (simp and_true))
    ∙ and_assoc (is kind_summary r) (eqb r.party a) (same_symbol r.symbol s)

pub by_executor_holds : (a e : ℕ) (r : Row)
    → has_key (a_permission a e) r ≡ (of_party kind_permission a r && eqb r.n1 e)
unfolding same_key key_of same_symbol
by_executor_holds a e r =
    of_kind r (a_permission a e) (eqb r.party a && eqb r.n1 e)
    (λ h. rw h (simp and_true))
    ∙ and_assoc (is kind_permission r) (eqb r.party a) (eqb r.n1 e)

pub by_status_holds : (i s : ℕ) (r : Row) → has_key (a_history i s) r ≡ (of_id kind_trade_history i r && eqb r.status s)
unfolding same_key key_of same_symbol
by_status_holds i s r =
    of_kind r (a_history i s) (eqb r.id i && eqb r.status s)
    (λ h. rw h (both (eqb r.status s) (eqb r.id i)))
    ∙ and_assoc (is kind_trade_history r) (eqb r.id i) (eqb r.status s)
  where
    both : (a b : Bool) → (a && true && true && b && true && true && true) ≡ (b && a)
    both true true = refl
    both true false = refl
    both false true = refl
    both false false = refl

-- ---- a row with the key of another
-- a row of another kind has another key
pub other_kind : (o r : Row) → eqb r.kind o.kind ≡ false → has_key (key_of o) r ≡ false
unfolding has_key same_key key_of same_symbol
other_kind o r e = rw e

own_history : (r : Row) → r.kind ≡ kind_trade_history → key_of r ≡ a_history r.id r.status
unfolding key_of
own_history r e = rw e

pub history_twin : (r s : Row) → s.kind ≡ r.kind → r.kind ≡ kind_trade_history
    → (eqb s.id r.id && eqb s.status r.status) ≡ has_key (key_of r) s
history_twin r s f e =
    let g : is kind_trade_history s ≡ true = eq-eqb s.kind kind_trade_history (f ∙ e) in
    rw (own_history r e, by_status_holds r.id r.status s, g)
