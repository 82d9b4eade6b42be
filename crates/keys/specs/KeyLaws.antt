-- The order of keys is strict and total, and equal keys have equal key fields. The order is that of a number whose
-- digits the fields are, so each law is one of numbers. Assumes nothing.
use Rattle.std.specs.Prelude.{◌≡◌, Bool, true, false, cond, List, [], ◌∷◌, ℕ, ◌^◌, ◌<◌, eqb, ltb}
use Rattle.std.proofs.Math.Path.{refl}
use Rattle.std.proofs.Common.{sym, ap, ◌∙◌, lt_trans, le_refl, le_antisymm, eqb-true, eq-eqb, ltb-true, ltb-false, lt-ltb, le-ltb}
use Rattle.laws.specs.Digits.{Digit, less, InBase, same_number, less_number, head_equal, digits_equal}
use Rattle.laws.specs.Tests.{eqb_itself}
use Rattle.keys.specs.Key.{among, by_form, by_status, by_flags, by_party, by_id, by_symbol, by_n1, by_m2, key_of}
use Rattle.keys.specs.Key.{same_key, key_number}
use Rattle.record.specs.Symbol.{no_symbol, same_symbol, symbol_eq, symbol_itself, symbol_base, symbol_number}
use Rattle.record.specs.declared.row.Row.{Row}
use Rattle.keys.specs.declared.Key.{Key}

-- each field is of its width
pub record SizedKey (k : Key) : Type 0 where
  pub form : k.form < 2 ^ 8
  pub status : k.status < 2 ^ 8
  pub flags : k.flags < 2 ^ 8
  pub party : k.party < 2 ^ 32
  pub id : k.id < 2 ^ 64
  pub symbol : symbol_number k.symbol < symbol_base
  pub n1 : k.n1 < 2 ^ 32
  pub m2 : k.m2 < 2 ^ 64

abbrev digit : ℕ → ℕ → ℕ → Digit
digit m x y = record { base = m; mine = x; yours = y }

-- the fields behind the kind, as digits
abbrev pub digits : Key → Key → List Digit
digits a b =
    digit (2 ^ 8) a.form b.form
    ∷ digit (2 ^ 8) a.status b.status
    ∷ digit (2 ^ 8) a.flags b.flags
    ∷ digit (2 ^ 32) a.party b.party
    ∷ digit (2 ^ 64) a.id b.id
    ∷ digit symbol_base (symbol_number a.symbol) (symbol_number b.symbol)
    ∷ digit (2 ^ 32) a.n1 b.n1
    ∷ digit (2 ^ 64) a.m2 b.m2
    ∷ []

-- the test of order that the code makes
abbrev pub less_key : Key → Key → Bool
less_key a b = less (ltb a.kind b.kind) (eqb a.kind b.kind) (digits a b)

module _ (a b : Key) (p : SizedKey a) (q : SizedKey b) where
  in_base : InBase (digits a b)
  in_base = (
    p.form,
    q.form,
    (
      p.status,
      q.status,
      (
        p.flags,
        q.flags,
        (
          p.party,
          q.party,
          (
            p.id,
            q.id,
            (
              p.symbol,
              q.symbol,
              (
                p.n1,
                q.n1,
                (p.m2, q.m2, tt),
              ),
            ),
          ),
        ),
      ),
    ),
  )

  pub same_is : same_key a b ≡ eqb (key_number a) (key_number b)
  unfolding same_key same_symbol key_number
  same_is = same_number (eqb a.kind b.kind) a.kind b.kind (digits a b) in_base refl

  pub less_is : less_key a b ≡ ltb (key_number a) (key_number b)
  unfolding key_number
  less_is =
      less_number (ltb a.kind b.kind) (eqb a.kind b.kind) a.kind b.kind (digits a b) in_base refl refl

-- ---- equal keys
key_eq : {a b : Key} → a.kind ≡ b.kind → a.form ≡ b.form → a.status ≡ b.status → a.flags ≡ b.flags
    → a.party ≡ b.party → a.id ≡ b.id → a.symbol ≡ b.symbol → a.n1 ≡ b.n1 → a.m2 ≡ b.m2 → a ≡ b
key_eq e0 e1 e2 e3 e4 e5 e6 e7 e8 = λ i. record {
  kind = e0 i;
  form = e1 i;
  status = e2 i;
  flags = e3 i;
  party = e4 i;
  id = e5 i;
  symbol = e6 i;
  n1 = e7 i;
  m2 = e8 i;
}

-- the test tells equality
pub same_keys : (a b : Key) → same_key a b ≡ true → a ≡ b
unfolding same_key same_symbol
same_keys a b e =
    let at = digits_equal (eqb a.kind b.kind) (digits a b) e in
    key_eq (eqb-true a.kind b.kind (head_equal _ (digits a b) e)) (at 0) (at 1) (at 2) (at 3) (at 4)
    (symbol_eq {a = a.symbol} {b = b.symbol} (at 5)) (at 6) (at 7)

pub key_itself : (a : Key) → same_key a a ≡ true
unfolding same_key
key_itself a = simp (eqb_itself, symbol_itself)

-- and so does the number
pub one_number : (a b : Key) → SizedKey a → SizedKey b → key_number a ≡ key_number b → a ≡ b
one_number a b p q e = same_keys a b (same_is a b p q ∙ eq-eqb (key_number a) (key_number b) e)

-- two rows of one kind, and of the same values in the fields that their kind's key has
pub record Alike (r s : Row) : Type 0 where
  pub kind : r.kind ≡ s.kind
  pub form : among r.kind by_form ≡ true → r.form ≡ s.form
  pub status : among r.kind by_status ≡ true → r.status ≡ s.status
  pub flags : among r.kind by_flags ≡ true → r.flags ≡ s.flags
  pub party : among r.kind by_party ≡ true → r.party ≡ s.party
  pub id : among r.kind by_id ≡ true → r.id ≡ s.id
  pub symbol : among r.kind by_symbol ≡ true → r.symbol ≡ s.symbol
  pub n1 : among r.kind by_n1 ≡ true → r.n1 ≡ s.n1
  pub m2 : among r.kind by_m2 ≡ true → r.m2 ≡ s.m2

-- x and y are kept for the same of two equal kinds
named_same : {A : Type 0} (none : A) (r s : Row) → r.kind ≡ s.kind → (ks : List ℕ) (x y : A)
    → cond (among r.kind ks) x none ≡ cond (among s.kind ks) y none → among r.kind ks ≡ true → x ≡ y
named_same none r s e ks x y f h =
    let there = ap (λ (k : ℕ). among k ks) (sym e) ∙ h in
    sym (ap (λ (v : Bool). cond v x none) h) ∙ f ∙ ap (λ (v : Bool). cond v y none) there

-- equal keys, equal key fields
pub keys_tell : (r s : Row) → key_of r ≡ key_of s → Alike r s
unfolding key_of
keys_tell r s e =
    let k : r.kind ≡ s.kind = ap (λ (x : Key). x.kind) e in
    record {
      kind = k;
      form = named_same 0 r s k by_form r.form s.form (ap (λ (x : Key). x.form) e);
      status = named_same 0 r s k by_status r.status s.status (ap (λ (x : Key). x.status) e);
      flags = named_same 0 r s k by_flags r.flags s.flags (ap (λ (x : Key). x.flags) e);
      party = named_same 0 r s k by_party r.party s.party (ap (λ (x : Key). x.party) e);
      id = named_same 0 r s k by_id r.id s.id (ap (λ (x : Key). x.id) e);
      symbol = named_same no_symbol r s k by_symbol r.symbol s.symbol (ap (λ (x : Key). x.symbol) e);
      n1 = named_same 0 r s k by_n1 r.n1 s.n1 (ap (λ (x : Key). x.n1) e);
      m2 = named_same 0 r s k by_m2 r.m2 s.m2 (ap (λ (x : Key). x.m2) e);
    }

-- ---- a strict total order: that of the numbers
pub irreflexive : (a : Key) → ltb (key_number a) (key_number a) ≡ false
irreflexive a = le-ltb (key_number a) (key_number a) (le_refl (key_number a))

pub transitive : (a b c : Key) → ltb (key_number a) (key_number b) ≡ true → ltb (key_number b) (key_number c) ≡ true
    → ltb (key_number a) (key_number c) ≡ true
transitive a b c p q =
    let ab = ltb-true (key_number a) (key_number b) p in
    let bc = ltb-true (key_number b) (key_number c) q in
    lt-ltb (key_number a) (key_number c) (lt_trans ab bc)

-- neither is less: then they are one key
pub total : (a b : Key) → SizedKey a → SizedKey b → ltb (key_number a) (key_number b) ≡ false
    → ltb (key_number b) (key_number a) ≡ false → a ≡ b
total a b f g p q =
    let ba = ltb-false (key_number a) (key_number b) p in
    let ab = ltb-false (key_number b) (key_number a) q in
    one_number a b f g (le_antisymm ab ba)
