-- The table of a list by a number of each element is the table of those numbers: so an element may leave its chain and
-- another come in its place. Assumes nothing.
use Rattle.std.specs.Prelude.{◌≡◌, refl, Bool, true, false, List, [], ◌∷◌, map, ℕ, zero, suc, ◌+◌, ◌-◌, ◌≤◌, ◌<◌, ltb, length, drop, get_or}
use Rattle.std.proofs.Common.{sym, ◌∙◌, arith, ltb-true, ltb-false}
use Rattle.std.proofs.Math.Dec.{eqb}
use Rattle.std.proofs.lemmas.List.{length-map}
use Rattle.laws.specs.Chain.{Chained, numbered}
use Rattle.chains.specs.Links.{Linked, of, own_head, own_link, own_place, owner}
use Rattle.laws.specs.Walk.{drop_map, from, from_low, seek_map}

pub number_at : {A : Type 0} (g : A → ℕ) (d : A) (l : List A) (j : ℕ) → j < length l
    → get_or (map g l) j 0 ≡ g (get_or l j d)
number_at g d [] j h = absurd (omega arith)
number_at g d (x ∷ l) zero h = refl
number_at g d (x ∷ l) (suc j) h = number_at g d l j (omega arith)

module _ {A : Type 0} (g : A → ℕ) (d : A) (size : ℕ) (l : List A) (t : List ℕ) where
  from_numbers : (h i : ℕ) → from (numbered g h) l i ≡ from (of h) (map g l) i
  unfolding numbered of
  from_numbers h i = seek_map g (λ n. eqb n h) i (drop i l) ∙ rw (drop_map g i l)

  pub chained_links : Chained g d size l t 0 → size + length l ≤ length t → Linked size (map g l) t
  chained_links s room =
      let n : length (map g l) ≡ length l = length-map l g in
      record {
        room = omega arith;
        cells = λ x i o. cell x (omega arith) (ltb x size) refl;
        rises = λ j i.
            let e = s.links j (omega arith) (omega arith) in
            let low = from_low (numbered g (g (get_or l j d))) l (j + 1) in
            omega arith;
      }
    where
      cell : (x : ℕ) → x < size + length l → (u : Bool) → ltb x size ≡ u
          → get_or t x 0 ≡ from (of (owner size (map g l) x)) (map g l) (x + 1 - size)
      cell x i true e =
          let h = ltb-true x size e in
          let o = own_head size (map g l) x h in
          let k : x + 1 - size ≡ 0 = omega arith in
          rw (o, k) (s.heads x h ∙ from_numbers x 0)
      cell x i false e =
          let h = ltb-false x size e in
          let j = x - size in
          let y : size + j ≡ x = omega arith in
          let k : x + 1 - size ≡ j + 1 = omega arith in
          let o : owner size (map g l) x ≡ g (get_or l j d) =
          own_link size (map g l) x h ∙ number_at g d l j (omega arith)
          in
          let c : get_or t x 0 ≡ from (numbered g (g (get_or l j d))) l (j + 1) =
          rw y at (s.links j (omega arith) (omega arith))
          in
          rw (o, k) (c ∙ from_numbers (g (get_or l j d)) (j + 1))

  pub links_chained : Linked size (map g l) t → ((r : A) → g r < size) → Chained g d size l t 0
  links_chained s all = record {
    heads = λ h z.
        let o = own_head size (map g l) h z in
        let k : h + 1 - size ≡ 0 = omega arith in
        let c = s.cells h (omega arith) (omega arith) in
        rw (o, k) at c ∙ sym (from_numbers h 0);
    links = λ j a i.
        let m = g (get_or l j d) in
        let n : length (map g l) ≡ length l = length-map l g in
        let o : owner size (map g l) (size + j) ≡ m = own_place size (map g l) j ∙ number_at g d l j i in
        let k : size + j + 1 - size ≡ j + 1 = omega arith in
        let z = all (get_or l j d) in
        let c = s.cells (size + j) (omega arith) (omega arith) in
        rw (o, k) at c ∙ sym (from_numbers m (j + 1));
  }
