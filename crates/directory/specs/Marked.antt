-- A row has a key where its kind is the key's and the fields that the kind's marks name are equal, for a key whose
-- other fields are zero. Assumes nothing.
use Rattle.std.specs.Prelude.{◌≡◌, refl, Bool, true, false, cond, not, ◌&&◌, ◌||◌, ℕ, eqb}
use Rattle.std.proofs.Common.{sym, ap, ◌∙◌, eq-eqb, eqb-true}
use Rattle.record.specs.Codes.{kind_trade_history}
use Rattle.record.specs.Symbol.{no_symbol, same_symbol, symbol_itself}
use Rattle.record.specs.declared.row.Row.{Row}
use Rattle.record.specs.declared.symbol.Symbol.{Symbol}
use Rattle.kinds.specs.declared.limits.Marks.{Marks}
use Rattle.keys.specs.Key.{among, by_flags, by_form, by_id, by_m2, by_n1, by_party, by_status, by_symbol, key_of, same_key}
use Rattle.keys.specs.Marks.{all_keys, listed, marks_are, marks_of}
use Rattle.keys.specs.declared.Key.{Key}
use Rattle.model.specs.Names.{key}
use Rattle.model.specs.Rows.{has_key}
use Rattle.chains.specs.Group.{a_group, key_group}

-- a key with the fields of its kind's key alone
abbrev pub trimmed : Key → Key
trimmed k = record {
  kind = k.kind;
  form = cond (among k.kind by_form) k.form 0;
  status = cond (among k.kind by_status) k.status 0;
  flags = cond (among k.kind by_flags) k.flags 0;
  party = cond (among k.kind by_party) k.party 0;
  id = cond (among k.kind by_id) k.id 0;
  symbol = cond (among k.kind by_symbol) k.symbol no_symbol;
  n1 = cond (among k.kind by_n1) k.n1 0;
  m2 = cond (among k.kind by_m2) k.m2 0;
}

-- the test of the code, with that of the symbol
abbrev same_marked : Marks → Bool → Key → Row → Bool
same_marked m s k r =
    eqb r.kind k.kind && (not m.form || eqb r.form k.form)
    && (not m.status || eqb r.status k.status) && (not m.flags || eqb r.flags k.flags)
    && (not m.party || eqb r.party k.party) && (not m.id || eqb r.id k.id)
    && (not m.symbol || s) && (not m.n1 || eqb r.n1 k.n1) && (not m.m2 || eqb r.m2 k.m2)

-- a field that is kept where it is marked, against one that is zero where it is not
number : (b : Bool) (x y : ℕ) → cond b y 0 ≡ y → (not b || eqb x y) ≡ eqb (cond b x 0) y
number true x y e = refl
number false x y e = sym (eq-eqb 0 y e)

letters : (b : Bool) (x y : Symbol) → cond b y no_symbol ≡ y
    → (not b || same_symbol x y) ≡ same_symbol (cond b x no_symbol) y
letters true x y e = refl
letters false x y e = sym (ap (same_symbol no_symbol) (sym e) ∙ symbol_itself no_symbol)

pub marked : {m : Marks} {s : Bool} (k : Key) (r : Row) → m ≡ marks_of k.kind all_keys → trimmed k ≡ k
    → s ≡ same_symbol r.symbol k.symbol → same_marked m s k r ≡ has_key k r
unfolding has_key same_key key_of
marked {m} {s} k r e t q = rw (e, q, marks_are k.kind) (go (eqb r.kind k.kind) refl)
  where
    go : (x : Bool) → eqb r.kind k.kind ≡ x
        → same_marked (listed k.kind) (same_symbol r.symbol k.symbol) k r ≡ same_key (key_of r) k
    go true h = rw (eqb-true r.kind k.kind h) (λ i.
        eqb k.kind k.kind
        && number (among k.kind by_form) r.form k.form (ap (λ (x : Key). x.form) t) i
        && number (among k.kind by_status) r.status k.status (ap (λ (x : Key). x.status) t) i
        && number (among k.kind by_flags) r.flags k.flags (ap (λ (x : Key). x.flags) t) i
        && number (among k.kind by_party) r.party k.party (ap (λ (x : Key). x.party) t) i
        && number (among k.kind by_id) r.id k.id (ap (λ (x : Key). x.id) t) i
        && letters (among k.kind by_symbol) r.symbol k.symbol (ap (λ (x : Key). x.symbol) t) i
        && number (among k.kind by_n1) r.n1 k.n1 (ap (λ (x : Key). x.n1) t) i
        && number (among k.kind by_m2) r.m2 k.m2 (ap (λ (x : Key). x.m2) t) i)
    go false h = rw h

-- a row's key has the fields of its kind alone
twice : {A : Type 0} (b : Bool) (x none : A) → cond b (cond b x none) none ≡ cond b x none
twice true x none = refl
twice false x none = refl

own_trimmed : (r : Row) → trimmed (key_of r) ≡ key_of r
unfolding key_of
own_trimmed r = λ i. record {
  kind = r.kind;
  form = twice (among r.kind by_form) r.form 0 i;
  status = twice (among r.kind by_status) r.status 0 i;
  flags = twice (among r.kind by_flags) r.flags 0 i;
  party = twice (among r.kind by_party) r.party 0 i;
  id = twice (among r.kind by_id) r.id 0 i;
  symbol = twice (among r.kind by_symbol) r.symbol no_symbol i;
  n1 = twice (among r.kind by_n1) r.n1 0 i;
  m2 = twice (among r.kind by_m2) r.m2 0 i;
}

pub own_marked : (r : Row) {k : Key} {m : Marks} → k ≡ key_of r → m ≡ marks_of r.kind all_keys
    → (m ≡ marks_of k.kind all_keys) × (trimmed k ≡ k)
unfolding key_of
own_marked r e f = (f ∙ ap (λ (x : Key). marks_of x.kind all_keys) (sym e), rw e (own_trimmed r))

-- the group of a key that is no history's has its fields
pub fields_group : (k f s p i : ℕ) (y : Symbol) (n : ℕ) → eqb k kind_trade_history ≡ false
    → a_group k f s 0 p i y ≡ key_group (key k f s p i y n)
unfolding key_group
fields_group k f s p i y n e = rw e
