-- Rows changed in their place, rows freed, and rows put into the free places, lowest first. A row's place is where a
-- row equal to it stands first. Assumes nothing.
use Rattle.std.specs.Prelude.{◌≡◌, Bool, cond, ℕ, ◌+◌, ◌≤◌, leb}
use Rattle.std.proofs.Math.Path.{refl, ap}
use Rattle.std.proofs.Common.{sym, ◌∙◌, subst}
use Rattle.std.proofs.Math.Bool.{true, false}
use Rattle.std.proofs.lemmas.Bool.{false≢true}
use mathlib.Core.List.Memᴰ
use mathlib.Core.List.{List, [], ◌∷◌, ◌++◌, map}
use Rattle.std.proofs.Math.Nat.{zero-add}
use native.Mathlib.Omega.{arith}
use Rattle.std.proofs.Math.ListN.{set}
use Rattle.laws.specs.All.{All}
use Rattle.laws.specs.Keep.{count_has}
use Rattle.laws.specs.Place.{seek_suc, the_passes}
use Rattle.laws.specs.Search.{count, keep, place, seek, the, total}

module _ {A : Type 0} (same : A → A → Bool) where
  -- one row in the place of another
  unfoldable pub put : A → A → List A → List A
  put o n [] = []
  put o n (x ∷ l) = cond (same o x) (n ∷ l) (x ∷ put o n l)

  -- which is the first that is the same
  pub put_place : (o n : A) (l : List A) → put o n l ≡ set l (place (same o) l) n
  unfolding put seek
  put_place o n [] = refl
  put_place o n (x ∷ l) = go (put_place o n l) (same o x) refl
    where
      go : put o n l ≡ set l (place (same o) l) n → (t : Bool) → same o x ≡ t
          → put o n (x ∷ l) ≡ set (x ∷ l) (place (same o) (x ∷ l)) n
      go ih true e = rw e
      go ih false e = rw (e, seek_suc (same o) 0 l, ih)

  unfoldable pub puts : List (A × A) → List A → List A
  puts [] l = l
  puts (p ∷ ps) l = puts ps (put p.0 p.1 l)

  -- rows into the places that hold the row f, lowest first
  unfoldable pub fill : A → List A → List A → List A
  fill f [] l = l
  fill f (n ∷ ns) l = fill f ns (put f n l)

  -- all additions go before any removal: a place that a call frees serves later calls
  unfoldable pub written : A → List (A × A) → List A → List A → List A → List A
  written f changes freed added l = puts (changes ++ map (λ o. (o, f)) freed) (fill f added l)

-- ---- what a test finds, keeps and counts after a put, where `same` tells equality
module _ {A : Type 0} (same : A → A → Bool) (tells : (a b : A) → same a b ≡ true → a ≡ b) where
  -- one that does not pass, in the place of another
  module _ (p : A → Bool) (o n : A) (was : p o ≡ false) (now : p n ≡ false) where
    passed : (x : A) → same o x ≡ true → p x ≡ false
    passed x e = ap p (sym (tells o x e)) ∙ was

    pub keep_other : (l : List A) → keep p (put same o n l) ≡ keep p l
    unfolding keep put
    keep_other [] = refl
    keep_other (x ∷ l) = go (keep_other l) (same o x) refl
      where
        go : keep p (put same o n l) ≡ keep p l → (t : Bool) → same o x ≡ t
            → keep p (put same o n (x ∷ l)) ≡ keep p (x ∷ l)
        go ih true e = rw (e, now, passed x e)
        go ih false e = rw (e, ih)

    pub place_other : (l : List A) → place p (put same o n l) ≡ place p l
    unfolding put seek
    place_other [] = refl
    place_other (x ∷ l) = go (place_other l) (same o x) refl
      where
        go : place p (put same o n l) ≡ place p l → (t : Bool) → same o x ≡ t
            → place p (put same o n (x ∷ l)) ≡ place p (x ∷ l)
        go ih true e = rw (e, now, passed x e)
        go ih false e = rw (e, seek_suc p 0 (put same o n l), seek_suc p 0 l, ih)

    pub the_other : (d : A) (l : List A) → the p d (put same o n l) ≡ the p d l
    unfolding the put
    the_other d [] = refl
    the_other d (x ∷ l) = go (the_other d l) (same o x) refl
      where
        go : the p d (put same o n l) ≡ the p d l → (t : Bool) → same o x ≡ t
            → the p d (put same o n (x ∷ l)) ≡ the p d (x ∷ l)
        go ih true e = rw (e, now, passed x e)
        go ih false e = rw (e, ih)

  -- one that passes as the other did
  module _ (p : A → Bool) (o n : A) (alike : p n ≡ p o) where
    pub count_alike : (l : List A) → count p (put same o n l) ≡ count p l
    unfolding count total put
    count_alike [] = refl
    count_alike (x ∷ l) = go (count_alike l) (same o x) refl
      where
        go : count p (put same o n l) ≡ count p l → (t : Bool) → same o x ≡ t
            → count p (put same o n (x ∷ l)) ≡ count p (x ∷ l)
        go ih true e = let q : p n ≡ p x = alike ∙ ap p (tells o x e) in rw (e, q)
        go ih false e = rw (e, ih)

  -- one in the place of the first that passes
  module _ (itself : (a : A) → same a a ≡ true) (p : A → Bool) (d n : A) where
    later : (x : A) (l : List A) → leb 1 (count p l) ≡ true → p x ≡ false → same (the p d l) x ≡ false
    later x l h e = go (same (the p d l) x) refl
      where
        go : (t : Bool) → same (the p d l) x ≡ t → same (the p d l) x ≡ false
        go true q = absurd (false≢true (sym e ∙ ap p (sym (tells (the p d l) x q)) ∙ the_passes p d l h))
        go false q = q

    left : (x : A) (l : List A) → leb 1 (count p (x ∷ l)) ≡ true → p x ≡ false → leb 1 (count p l) ≡ true
    unfolding count total
    left x l h e = rw (e, zero-add (count p l)) at h

    pub put_the : (l : List A) → leb 1 (count p l) ≡ true → put same (the p d l) n l ≡ set l (place p l) n
    unfolding put the seek count total
    put_the [] h = refl
    put_the (x ∷ l) h = go (put_the l) (p x) refl
      where
        go : (leb 1 (count p l) ≡ true → put same (the p d l) n l ≡ set l (place p l) n) → (t : Bool) → p x ≡ t
            → put same (the p d (x ∷ l)) n (x ∷ l) ≡ set (x ∷ l) (place p (x ∷ l)) n
        go ih true e = rw (e, itself x)
        go ih false e =
            let k = left x l h e in
            let found : the p d (x ∷ l) ≡ the p d l = rw e in
            subst (λ (o : A). put same o n (x ∷ l) ≡ set (x ∷ l) (place p (x ∷ l)) n) (sym found)
            (rw (e, later x l k e, seek_suc p 0 l, ih k))

  module _ (itself : (a : A) → same a a ≡ true) (p : A → Bool) (d n : A) (now : p n ≡ true) where
    pub the_same : (l : List A) → leb 1 (count p l) ≡ true → the p d (put same (the p d l) n l) ≡ n
    unfolding put the count total
    the_same [] h = absurd (false≢true h)
    the_same (x ∷ l) h = go (the_same l) (p x) refl
      where
        go : (leb 1 (count p l) ≡ true → the p d (put same (the p d l) n l) ≡ n) → (t : Bool) → p x ≡ t
            → the p d (put same (the p d (x ∷ l)) n (x ∷ l)) ≡ n
        go ih true e = rw (e, itself x, now)
        go ih false e =
            let k = left itself p d n x l h e in
            let found : the p d (x ∷ l) ≡ the p d l = rw e in
            subst (λ (o : A). the p d (put same o n (x ∷ l)) ≡ n) (sym found)
            (rw (later itself p d n x l k e, e) (ih k))

-- ---- rows put one after the other
module _ {A : Type 0} (same : A → A → Bool) where
  pub puts_append : (ps qs : List (A × A)) (l : List A) → puts same (ps ++ qs) l ≡ puts same qs (puts same ps l)
  unfolding puts
  puts_append [] qs l = refl
  puts_append (p ∷ ps) qs l = puts_append ps qs (put same p.0 p.1 l)

  pub fill_append : (f : A) (hs ks l : List A) → fill same f (hs ++ ks) l ≡ fill same f ks (fill same f hs l)
  unfolding fill
  fill_append f [] ks l = refl
  fill_append f (h ∷ hs) ks l = fill_append f hs ks (put same f h l)

-- ---- rows set in their places, one after the other
module _ {A : Type 0} where
  unfoldable pub sets : List (ℕ × A) → List A → List A
  sets [] l = l
  sets (w ∷ ws) l = sets ws (set l w.0 w.1)

  pub sets_append : (vs ws : List (ℕ × A)) (l : List A) → sets (vs ++ ws) l ≡ sets ws (sets vs l)
  unfolding sets
  sets_append [] ws l = refl
  sets_append (v ∷ vs) ws l = sets_append vs ws (set l v.0 v.1)

-- ---- rows that are put in the places of others, each found by a test of its own, as by its key
-- o is the first that passes its own test, and stands at a known place
pub record Stands {A : Type 0} (own : A → A → Bool) (d : A) (at : A → ℕ) (l : List A) (o : A) : Type 0 where
  pub some : leb 1 (count (own o) l) ≡ true
  pub first : the (own o) d l ≡ o
  pub here : place (own o) l ≡ at o

module _ {A : Type 0} (same : A → A → Bool) (tells : (a b : A) → same a b ≡ true → a ≡ b) (own : A → A → Bool)
    (d : A) (at : A → ℕ) where
  -- one that is not o's gives way to another that is not
  stands_put : (x n : A) (l : List A) (o : A) → own o x ≡ false → own o n ≡ false → Stands own d at l o
      → Stands own d at (put same x n l) o
  stands_put x n l o was now s = record {
    some = ap (leb 1) (count_alike same tells (own o) x n (now ∙ sym was) l) ∙ s.some;
    first = the_other same tells (own o) x n was now d l ∙ s.first;
    here = place_other same tells (own o) x n was now l ∙ s.here;
  }

  pub stands_fill : (f : A) (hs l : List A) (o : A) → own o f ≡ false → All (λ (h : A). own o h ≡ false) hs
      → Stands own d at l o → Stands own d at (fill same f hs l) o
  unfolding fill
  stands_fill f [] l o e a s = s
  stands_fill f (h ∷ hs) l o e a s =
      stands_fill f hs (put same f h l) o e (λ x m. a x (Memᴰ.tail m))
      (stands_put f h l o e (a h (Memᴰ.head refl)) s)

  -- o's own is among ws, and there is no second: w is not
  clear : (o : A) (w : A × A) (ws : List (A × A)) → 1 ≤ count (λ (v : A × A). own o v.0) ws
      → count (λ (v : A × A). own o v.0) (w ∷ ws) ≤ 1 → own o w.0 ≡ false
  unfolding count total
  clear o w ws a b = go (own o w.0) refl
    where
      go : (t : Bool) → own o w.0 ≡ t → own o w.0 ≡ false
      go true e =
          let z : 1 + count (λ (v : A × A). own o v.0) ws ≤ 1 = rw e at b in
          absurd (omega arith)
      go false e = e

  fewer : (o : A) (w : A × A) (ws : List (A × A)) → count (λ (v : A × A). own o v.0) (w ∷ ws) ≤ 1
      → count (λ (v : A × A). own o v.0) ws ≤ 1
  unfolding count total
  fewer o w ws h = omega arith

  itself_own : (l : List A) (o : A) → Stands own d at l o → own o o ≡ true
  itself_own l o s = sym (ap (own o) s.first) ∙ the_passes (own o) d l s.some

  not_new : (a b : Bool) → (a ≡ true → b ≡ true) → b ≡ false → a ≡ false
  not_new true b h e = absurd (false≢true (sym e ∙ h refl))
  not_new false b h e = refl

  -- each stands, none comes to be another's, and none is there twice
  pub puts_by_place : ((a : A) → same a a ≡ true) → (ws : List (A × A)) (l : List A)
      → All (λ (w : A × A). Stands own d at l w.0) ws
      → All (λ (v : A × A). All (λ (w : A × A). own v.0 w.1 ≡ true → own v.0 w.0 ≡ true) ws) ws
      → All (λ (v : A × A). count (λ (w : A × A). own v.0 w.0) ws ≤ 1) ws
      → puts same ws l ≡ sets (map (λ (w : A × A). (at w.0, w.1)) ws) l
  unfolding puts sets
  puts_by_place itself [] l s k c = refl
  puts_by_place itself (w ∷ ws) l s k c =
      let here = s w (Memᴰ.head refl) in
      let step : put same w.0 w.1 l ≡ set l (at w.0) w.1 =
      ap (λ (o : A). put same o w.1 l) (sym here.first)
      ∙ put_the same tells itself (own w.0) d w.1 l here.some
      ∙ ap (λ (i : ℕ). set l i w.1) here.here
      in
      let apart : All (λ (v : A × A). own v.0 w.0 ≡ false) ws =
      λ v m.
      clear v.0 w ws
      (count_has (λ (u : A × A). own v.0 u.0) v ws m (itself_own l v.0 (s v (Memᴰ.tail m))))
      (c v (Memᴰ.tail m))
      in
      puts_by_place itself ws (put same w.0 w.1 l)
      (λ v m.
      stands_put w.0 w.1 l v.0 (apart v m)
      (not_new (own v.0 w.1) (own v.0 w.0) (k v (Memᴰ.tail m) w (Memᴰ.head refl)) (apart v m))
      (s v (Memᴰ.tail m)))
      (λ v m u n. k v (Memᴰ.tail m) u (Memᴰ.tail n))
      (λ v m. fewer v.0 w ws (c v (Memᴰ.tail m)))
      ∙ ap (sets (map (λ (u : A × A). (at u.0, u.1)) ws)) step
