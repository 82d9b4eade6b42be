-- In a book that keeps S2 a key stands once or not at all, so that what is counted by a key is what the one row says.
-- Assumes nothing.
use Rattle.std.proofs.Math.Path.{◌≡◌, refl, sym, ap}
use Rattle.std.proofs.Common.{◌∙◌, zero-add, arith}
use Rattle.std.specs.Prelude.{Bool, ◌&&◌, ℕ, ◌+◌, length}
use Rattle.std.proofs.Math.Bool.{true, false}
use Rattle.std.proofs.lemmas.Bool.{false≢true}
use mathlib.Core.List.{List, [], ◌∷◌}
use Rattle.std.proofs.Math.Dec.{eqb}
use Rattle.std.proofs.Math.ListN.{get_or, get_or-eq_default}
use borrow.Author.Tests.{eq-eqb, eqb-true, ne_eqb, leb-false, ltb-true, ltb-false}
use Rattle.laws.specs.Search.{bit, count, place, the, total}
use Rattle.laws.specs.Tests.{or_else}
use Rattle.laws.specs.Walk.{from_holds}
use Rattle.record.specs.Codes.{completed, kind_free}
use Rattle.keys.specs.Key.{key_of}
use Rattle.keys.specs.KeyLaws.{same_keys}
use Rattle.keys.specs.declared.Key.{Key}
use Rattle.record.specs.declared.row.Row.{Row}
use Rattle.model.specs.Rows.{found, has_key, is, nothing, there}
use Rattle.model.specs.Sound.{alone, s2, agrees}
use Rattle.laws.specs.Place.{every_at, some_place, the_place}
use Rattle.record.specs.Symbol.{same_symbol}
use Rattle.model.specs.Names.{a_request, an_account}
use Rattle.by_group.specs.Rules.{as_asked}

-- the row that is found has the key
found_has : (k : Key) (rs : List Row) → there k rs ≡ true → has_key k (found k rs) ≡ true
unfolding there found
found_has k rs e =
    let h = ltb-true (place (has_key k) rs) (length rs) (sym (some_place (has_key k) rs) ∙ e) in
    rw (the_place (has_key k) nothing rs) (from_holds (has_key k) rs 0 nothing h)

found_key : (k : Key) (rs : List Row) → there k rs ≡ true → key_of (found k rs) ≡ k
unfolding has_key
found_key k rs e = same_keys (key_of (found k rs)) k (found_has k rs e)

pub found_none : (k : Key) (rs : List Row) → there k rs ≡ false → found k rs ≡ nothing
unfolding there found
found_none k rs e =
    let h = ltb-false (place (has_key k) rs) (length rs) (sym (some_place (has_key k) rs) ∙ e) in
    the_place (has_key k) nothing rs ∙ get_or-eq_default rs nothing h

-- and its kind tells that it is there
pub found_kind : (k : Key) (rs : List Row) → (k.kind ≡ kind_free → ⊥) → is k.kind (found k rs) ≡ there k rs
unfolding key_of
found_kind k rs n = go (there k rs) refl
  where
    go : (t : Bool) → there k rs ≡ t → is k.kind (found k rs) ≡ there k rs
    go true e =
        let q : (found k rs).kind ≡ k.kind = ap (λ (x : Key). x.kind) (found_key k rs e) in
        rw (q, e) (eq-eqb k.kind k.kind refl)
    go false e = rw (found_none k rs e, e) (ne_eqb 0 k.kind (λ q. n (sym q)))

-- and so does a status that a row that is not there does not have
pub done_there : (k : Key) (rs : List Row) → eqb (found k rs).status completed ≡ true → there k rs ≡ true
done_there k rs h = go (there k rs) refl
  where
    go : (t : Bool) → there k rs ≡ t → there k rs ≡ true
    go true e = e
    go false e = absurd (false≢true (rw (found_none k rs e) at h))

module _ (rs : List Row) (unique : s2 rs ≡ true) (k : Key) (named : k.kind ≡ kind_free → ⊥) where
  there_once : there k rs ≡ true → count (has_key k) rs ≡ 1
  unfolding s2 key_of there found
  there_once e =
      let i = place (has_key k) rs in
      let h = ltb-true i (length rs) (sym (some_place (has_key k) rs) ∙ e) in
      let f : get_or rs i nothing ≡ found k rs = sym (the_place (has_key k) nothing rs) in
      let a : alone rs (found k rs) ≡ true = rw f at (every_at (alone rs) nothing rs i unique h) in
      let q = found_key k rs e in
      let z : (found k rs).kind ≡ k.kind = ap (λ (x : Key). x.kind) q in
      let n : is kind_free (found k rs) ≡ false = ne_eqb (found k rs).kind kind_free (λ u. named (sym z ∙ u)) in
      rw q at (eqb-true (count (has_key (key_of (found k rs))) rs) 1
      (or_else (is kind_free (found k rs)) (eqb (count (has_key (key_of (found k rs))) rs) 1) a n))

  pub once : count (has_key k) rs ≡ bit (there k rs)
  unfolding there
  once = go (there k rs) refl
    where
      go : (t : Bool) → there k rs ≡ t → count (has_key k) rs ≡ bit (there k rs)
      go true e = rw e (there_once e)
      go false e = let h = leb-false 1 (count (has_key k) rs) e in rw e (omega arith)

-- ---- what is counted beside a key
module _ {A : Type 0} (p x : A → Bool) (d : A) where
  none_of : (l : List A) → count p l ≡ 0 → count (λ r. p r && x r) l ≡ 0
  unfolding count total
  none_of [] e = refl
  none_of (r ∷ l) e = go (p r) refl (none_of l)
    where
      go : (t : Bool) → p r ≡ t → (count p l ≡ 0 → count (λ r. p r && x r) l ≡ 0)
          → count (λ r. p r && x r) (r ∷ l) ≡ 0
      go true u ih = let z : 1 + count p l ≡ 0 = rw u at e in absurd (omega arith)
      go false u ih = let z : 0 + count p l ≡ 0 = rw u at e in let y = ih (omega arith) in rw u (omega arith)

  only_one : (l : List A) → count p l ≡ 1 → count (λ r. p r && x r) l ≡ bit (x (the p d l))
  unfolding count total the
  only_one [] e = absurd (let z : ◌≡◌ {A = ℕ} 0 1 = e in omega arith)
  only_one (r ∷ l) e = go (p r) refl (only_one l)
    where
      go : (t : Bool) → p r ≡ t → (count p l ≡ 1 → count (λ r. p r && x r) l ≡ bit (x (the p d l)))
          → count (λ r. p r && x r) (r ∷ l) ≡ bit (x (the p d (r ∷ l)))
      go true u ih =
          let z : 1 + count p l ≡ 1 = rw u at e in
          let y = none_of l (omega arith) in
          rw u (omega arith)
      go false u ih = let z : 0 + count p l ≡ 1 = rw u at e in let y = ih (omega arith) in rw u (zero-add _ ∙ y)

pub one_bit : (b : Bool) → eqb (bit b) 1 ≡ b
one_bit true = refl
one_bit false = refl

module _ (rs : List Row) (unique : s2 rs ≡ true) (k : Key) (named : k.kind ≡ kind_free → ⊥) where
  -- the one row of the key passes, too
  once_and : (x : Row → Bool) → eqb (count (λ r. has_key k r && x r) rs) 1 ≡ (there k rs && x (found k rs))
  unfolding there found
  once_and x = go (there k rs) refl
    where
      go : (t : Bool) → there k rs ≡ t
          → eqb (count (λ r. has_key k r && x r) rs) 1 ≡ (there k rs && x (found k rs))
      go true e =
          rw (e, only_one (has_key k) x nothing rs (once rs unique k named ∙ ap bit e)) (one_bit (x (found k rs)))
      go false e = rw (e, none_of (has_key k) x nothing rs (once rs unique k named ∙ ap bit e))

-- ---- S6
and_six : (a b c d e f : Bool) → (a && (b && c && d && e && f)) ≡ (a && b && c && d && e && f)
and_six true b c d e f = refl
and_six false b c d e f = refl

module _ (rs : List Row) (unique : s2 rs ≡ true) (t : Row) where
  pub agrees_is : eqb (count (agrees rs t) rs) 1
      ≡ (there (a_request t.id) rs && as_asked rs t (found (a_request t.id) rs))
  agrees_is =
      let k = a_request t.id in
      let e : (r : Row) → agrees rs t r ≡ (has_key k r && as_asked rs t r) =
      λ r. sym (and_six (has_key k r) (eqb r.form t.form) (same_symbol r.symbol t.symbol) (eqb r.n1 t.n1)
      (eqb r.n2 t.n2) (eqb r.party (found (an_account t.party) rs).n1))
      in
      let c : count (agrees rs t) rs ≡ count (λ r. has_key k r && as_asked rs t r) rs = λ j. count (λ r. e r j) rs in
      ap (λ (n : ℕ). eqb n 1) c ∙ once_and rs unique k (λ q. omega arith) (as_asked rs t)
