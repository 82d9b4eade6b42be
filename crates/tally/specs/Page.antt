-- Text that is written on a page, from a place on: one text after the other is the text of both. Assumes nothing.
use Rattle.std.specs.Prelude.{◌≡◌, refl, List, [], ◌∷◌, ◌++◌, ℕ, ◌+◌, ◌≤◌, ◌<◌, min, length, take, get_or, set}
use Rattle.std.proofs.Common.{sym, ap, ◌∙◌, append_assoc, append-nil, add-zero, add-one, arith, length-append, length-set, length-take, take_all, take-suc, take-suc-set}
use Rattle.std.proofs.Math.Nat.{min-le_right}

-- the first n bytes of a page are there, and are n
abbrev pub IsPrefixLen : ℕ → List ℕ → Type 0
IsPrefixLen n xs = (n ≤ length xs) × (n ≡ length (take n xs))

-- a page after a text was written at a place of it: up to the end of the text it has what stood before, and the text
pub record Wrote (old : List ℕ) (at : ℕ) (new : List ℕ) (end : ℕ) (text : List ℕ) : Type 0 where
  pub long : length new ≡ length old
  pub next : end ≡ at + length text
  pub same : take end new ≡ take at old ++ text

pub wrote_byte : (p : List ℕ) (at b : ℕ) → at < length p → Wrote p at (set p at b) (at + 1) (b ∷ [])
wrote_byte p at b h = record {
  long = length-set p at b;
  next = refl;
  same = rw add-one (take-suc-set p at b h);
}

wrote_none : (p : List ℕ) (at : ℕ) → Wrote p at p at []
wrote_none p at = record { long = refl; next = sym (add-zero at); same = sym (append-nil (take at p)) }

pub wrote_more : {p q r t u : List ℕ} {a b c : ℕ} → Wrote p a q b t → Wrote q b r c u → Wrote p a r c (t ++ u)
wrote_more {p} {t} {u} {a} v w = record {
  long = w.long ∙ v.long;
  next = rw length-append (let m = v.next in let n = w.next in omega arith);
  same = w.same ∙ ap (λ (l : List ℕ). l ++ u) v.same ∙ append_assoc (take a p) t u;
}

-- the first i bytes of a text are written
pub record Writing (old : List ℕ) (at : ℕ) (new : List ℕ) (i : ℕ) (text : List ℕ) : Type 0 where
  pub within : i ≤ length text
  pub wrote : Wrote old at new (at + i) (take i text)

pub writing_start : (p : List ℕ) (at : ℕ) (t : List ℕ) → Writing p at p 0 t
writing_start p at t = record { within = omega arith; wrote = rw add-zero (wrote_none p at) }

pub writing_more : {p q r t : List ℕ} {at i e b : ℕ} → Writing p at q i t → i < length t → b ≡ get_or t i 0
    → Wrote q (at + i) r e (b ∷ []) → Writing p at r (i + 1) t
writing_more {p} {q} {r} {t} {at} {i} {e} w h g v =
    let m = wrote_more w.wrote v in
    let k : e ≡ at + (i + 1) = (let n = v.next in omega arith) in
    let f : take (i + 1) t ≡ take i t ++ (get_or t i 0 ∷ []) = rw add-one (take-suc t i 0 h) in
    record { within = omega arith; wrote = rw (← k, f, ← g) m }

pub writing_all : {p q t : List ℕ} {at i : ℕ} → Writing p at q i t → length t ≤ i → Wrote p at q (at + i) t
writing_all {p} {q} {t} {at} {i} w h = rw (take_all i t h) at w.wrote

-- written from the front on, the text is what the page begins with
pub wrote_front : {p q t : List ℕ} {e : ℕ} → Wrote p 0 q e t → take e q ≡ t
wrote_front w = w.same

pub wrote_counts : {p q t : List ℕ} {e : ℕ} → Wrote p 0 q e t → IsPrefixLen e q
wrote_counts {q} {t} {e} w =
    let n = w.next in
    let l : length (take e q) ≡ length t = ap length w.same in
    let m : length (take e q) ≡ min e (length q) = length-take e q in
    let k = min-le_right e (length q) in
    (omega arith, omega arith)

pub ruleset writes = (wrote_byte, wrote_more, writing_start, writing_more, writing_all)
