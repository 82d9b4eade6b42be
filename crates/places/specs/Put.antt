-- Rows added one after the other: each comes to stand in the lowest place that is free. Assumes nothing.
use Rattle.std.specs.Prelude.{◌≡◌, refl, Bool, true, false, cond, List, [], ◌∷◌, ℕ, suc, ◌+◌, eqb, ltb, length, drop, get_or, set}
use Rattle.std.proofs.Common.{sym, ap, ◌∙◌, arith, get_or-set_same, get_or-set_other, lt-ltb, le-ltb, eq-eqb, eqb-true, ltb-true, ltb-false}
use Rattle.std.proofs.Math.Seq.{set_out}
use Rattle.std.proofs.lemmas.Bool.{eqb-false}
use Rattle.laws.specs.Change.{fill, put, put_place}
use Rattle.laws.specs.Place.{seek_suc}
use Rattle.laws.specs.Search.{seek}
use Rattle.laws.specs.Tests.{one_truth}
use Rattle.laws.specs.Walk.{from_alike}
use Rattle.record.specs.Codes.{kind_free}
use Rattle.record.specs.declared.row.Row.{Row}
use Rattle.model.specs.Rows.{is, nothing, rows, same_row}
use Rattle.model.specs.Sound.{s1}
use Rattle.facts.specs.Rows.{Clean, clean_fit, row_itself, same_rows}
use Rattle.places.specs.Rows.{after, free_from, row_at}

free_place : (i : ℕ) (rs : List Row) → Clean rs → seek (same_row nothing) i rs ≡ seek (is kind_free) i rs
unfolding seek
free_place i [] c = refl
free_place i (x ∷ l) c =
    let e : same_row nothing x ≡ is kind_free x =
    one_truth (same_row nothing x) (is kind_free x)
    (λ h. eq-eqb x.kind kind_free (ap (λ (r : Row). r.kind) (sym (same_rows nothing x h))))
    (λ h. ap (same_row nothing) (c 0 (eqb-true x.kind kind_free h)) ∙ row_itself nothing)
    in
    rw (e, free_place (i + 1) l (λ j. c (suc j)))

put_free : (n : Row) (rs : List Row) → Clean rs → put same_row nothing n rs ≡ set rs (free_from rs 0) n
put_free n rs c = put_place same_row nothing n rs ∙ rw (free_place 0 rs c)

clean_set : (rs : List Row) (i : ℕ) (n : Row) → Clean rs → (n.kind ≡ kind_free → ⊥) → Clean (set rs i n)
clean_set rs i n c f j k = go (eqb j i) (ltb i (length rs)) refl refl
  where
    go : (t u : Bool) → eqb j i ≡ t → ltb i (length rs) ≡ u → get_or (set rs i n) j nothing ≡ nothing
    go false u e h =
        let o = get_or-set_other rs i j n nothing (eqb-false j i e) in
        o ∙ c j (ap (λ (r : Row). r.kind) (sym o) ∙ k)
    go true true e h =
        let q : get_or (set rs i n) j nothing ≡ n =
        ap (λ (x : ℕ). get_or (set rs i n) x nothing) (eqb-true j i e)
        ∙ get_or-set_same rs i n nothing (ltb-true i (length rs) h)
        in
        absurd (f (ap (λ (r : Row). r.kind) (sym q) ∙ k))
    go true false e h =
        let o : get_or (set rs i n) j nothing ≡ get_or rs j nothing =
        ap (λ (l : List Row). get_or l j nothing) (set_out rs i n (ltb-false i (length rs) h))
        in
        o ∙ c j (ap (λ (r : Row). r.kind) (sym o) ∙ k)

-- after the lowest free place is filled the search goes on behind it
lowest_next : (n : Row) → is kind_free n ≡ false → (rs : List Row)
    → free_from (set rs (free_from rs 0) n) (after rs (free_from rs 0)) ≡ free_from (set rs (free_from rs 0) n) 0
unfolding seek after
lowest_next n e [] = refl
lowest_next n e (x ∷ l) = go (lowest_next n e l) (is kind_free x) refl
  where
    p : ℕ
    p = free_from l 0

    up : (t : Bool) → ltb p (length l) ≡ t
        → cond (ltb (suc p) (suc (length l))) (suc p + 1) (suc p) ≡ suc (cond (ltb p (length l)) (p + 1) p)
    up true h = rw (lt-ltb (suc p) (suc (length l)) (omega (arith, ltb-true p (length l) h)), h) (omega arith)
    up false h = rw (le-ltb (suc p) (suc (length l)) (omega (arith, ltb-false p (length l) h)), h)

    go : free_from (set l p n) (after l p) ≡ free_from (set l p n) 0 → (t : Bool) → is kind_free x ≡ t
        → free_from (set (x ∷ l) (free_from (x ∷ l) 0) n) (after (x ∷ l) (free_from (x ∷ l) 0))
        ≡ free_from (set (x ∷ l) (free_from (x ∷ l) 0) n) 0
    go ih true h = rw (h, lt-ltb 0 (length (x ∷ l)) (omega arith), e)
    go ih false h =
        rw (h, seek_suc (is kind_free) 0 l, up (ltb p (length l)) refl, h, seek_suc (is kind_free) 0 (set l p n))
        (seek_suc (is kind_free) (after l p) (drop (after l p) (set l p n)) ∙ ap suc ih)

-- ---- rows are added in the places that are free, lowest first
-- the search for the next free place may begin at `from`
pub record Free (b : List ℕ) (from : ℕ) : Type 0 where
  pub clean : Clean (rows b)
  pub lowest : free_from (rows b) from ≡ free_from (rows b) 0

pub free_start : (b : List ℕ) → s1 (rows b) ≡ true → Free b 0
free_start b e = record { clean = clean_fit (rows b) e; lowest = refl }

pub free_add : (b b' : List ℕ) (from : ℕ) (n : Row) {next : ℕ} → Free b from → is kind_free n ≡ false
    → next ≡ after (rows b) (free_from (rows b) from) → rows b' ≡ set (rows b) (free_from (rows b) from) n
    → (rows b' ≡ put same_row nothing n (rows b)) × Free b' next
free_add b b' from n s e a q =
    let rs = rows b in
    let r : rows b' ≡ set rs (free_from rs 0) n = q ∙ rw s.lowest in (
      r ∙ sym (put_free n rs s.clean),
      record {
        clean = rw r (clean_set rs (free_from rs 0) n s.clean (eqb-false n.kind kind_free e));
        lowest = rw (r, a, s.lowest) (lowest_next n e rs);
      },
    )

-- a row that is not free gives way to another
pub free_put : (b b' : List ℕ) (from j : ℕ) (n : Row) → Free b from → is kind_free n ≡ false
    → is kind_free (row_at b j) ≡ false → rows b' ≡ set (rows b) j n → Free b' from
free_put b b' from j n s e o q =
    let alike = from_alike (is kind_free) nothing (rows b) j n (λ h. e ∙ sym o) in
    record {
      clean = rw q (clean_set (rows b) j n s.clean (eqb-false n.kind kind_free e));
      lowest = rw q (alike from ∙ s.lowest ∙ sym (alike 0));
    }

-- ---- rows are added one after the other
-- what is left to add leads to w, and the search for the next free place may begin at `from`
pub record Adding (w left : List Row) (b : List ℕ) (from : ℕ) : Type 0 where
  pub free : Free b from
  pub leads : fill same_row nothing left (rows b) ≡ w

pub add_start : (left : List Row) (b : List ℕ) → Free b 0 → Adding (fill same_row nothing left (rows b)) left b 0
add_start left b f = record { free = f; leads = refl }

-- one of them is added
pub add_next : {w left : List Row} {n r : Row} {b b' : List ℕ} {from next : ℕ} → Adding w (n ∷ left) b from
    → is kind_free n ≡ false → r ≡ n → next ≡ after (rows b) (free_from (rows b) from)
    → rows b' ≡ set (rows b) (free_from (rows b) from) r → Adding w left b' next
unfolding fill
add_next {w} {left} {n} {r} {b} {b'} {from} s e f a q =
    let one = free_add b b' from n s.free e a (rw f at q) in
    record { free = one.1; leads = ap (fill same_row nothing left) one.0 ∙ s.leads }

pub add_done : {w left : List Row} {b : List ℕ} {from : ℕ} → Adding w left b from → left ≡ [] → rows b ≡ w
unfolding fill
add_done s e = rw e at s.leads
