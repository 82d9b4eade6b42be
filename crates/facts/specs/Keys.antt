-- Keys and kinds: a row has the kind of its key, and no other row passes a test of one kind. Assumes nothing.
use Rattle.std.specs.Prelude.{◌≡◌, refl, Bool, true, false, ℕ, ◌≤◌, eqb}
use Rattle.std.proofs.Common.{sym, ap, ◌∙◌, arith, ne_eqb, eq-eqb}
use Rattle.std.proofs.lemmas.Bool.{eqb-false}
use Rattle.laws.specs.Search.{bit}
use Rattle.record.specs.Codes.{kind_free}
use Rattle.keys.specs.Key.{key_of, same_key}
use Rattle.keys.specs.KeyLaws.{key_itself, same_keys}
use Rattle.keys.specs.declared.Key.{Key}
use Rattle.record.specs.declared.row.Row.{Row}
use Rattle.model.specs.Rows.{has_key, is, nothing}
use Rattle.facts.specs.Names.{other_kind}

-- ---- keys and kinds
pub key_kind : (k : Key) (r : Row) → has_key k r ≡ true → r.kind ≡ k.kind
unfolding has_key key_of
key_kind k r e = ap (λ (x : Key). x.kind) (same_keys (key_of r) k e)

pub own_key : (r : Row) → has_key (key_of r) r ≡ true
unfolding has_key
own_key r = key_itself (key_of r)

pub same_key_holds : (k : Key) (o n : Row) → key_of n ≡ key_of o → has_key k n ≡ true → has_key k o ≡ true
unfolding has_key
same_key_holds k o n e h = ap (λ (x : Key). same_key x k) (sym e) ∙ h

pub not_nothing : (o : Row) → is kind_free o ≡ false → has_key (key_of o) nothing ≡ false
not_nothing o live =
    other_kind o nothing (ne_eqb kind_free o.kind (λ e. eqb-false o.kind kind_free live (sym e)))

pub of_live : (k : ℕ) (r : Row) → eqb k kind_free ≡ false → r.kind ≡ k → is kind_free r ≡ false
of_live k r e h = ap (λ (x : ℕ). eqb x kind_free) h ∙ e

-- ---- tests that only rows of one kind pass
abbrev pub OfKind : ℕ → (Row → Bool) → Type 0
OfKind k p = (r : Row) → (r.kind ≡ k → ⊥) → p r ≡ false

pub kind_of_holds : (k : ℕ) → OfKind k (is k)
kind_of_holds k r n = ne_eqb r.kind k n

pub key_of_holds : (k : Key) → OfKind k.kind (has_key k)
key_of_holds k r n = go (has_key k r) refl
  where
    go : (t : Bool) → has_key k r ≡ t → has_key k r ≡ false
    go true e = absurd (n (key_kind k r e))
    go false e = e

-- a row of a kind counts once at most, and only for a key of that kind
pub of_kind : (k : Key) (r : Row) (n : ℕ) → r.kind ≡ n → bit (has_key k r) ≤ bit (eqb k.kind n)
of_kind k r n e = go (has_key k r) refl
  where
    go : (t : Bool) → has_key k r ≡ t → bit t ≤ bit (eqb k.kind n)
    go true h = let q : eqb k.kind n ≡ true = eq-eqb k.kind n (sym (key_kind k r h) ∙ e) in rw q (omega arith)
    go false h = omega arith
