-- The answer of a refusal: the area cleared, and the status in bytes 60-63.
use Rattle.std.specs.Prelude.{◌≡◌, refl, Bool, true, false, List, [], ◌∷◌, ◌++◌, ℕ, zero, suc, ◌+◌, ◌-◌, ◌/◌, ◌≤◌, ◌<◌, length, drop, replicate, set, take}
use Rattle.std.proofs.Common.{sym, ap, ◌∙◌, add-one, arith, take_all, take-suc-set, of_z}
use Rattle.std.proofs.Math.Nat.{suc-sub-suc, sub-zero, zero-sub}
use Rattle.std.proofs.lemmas.List.{length-replicate, replicate-append-replicate}
use Rattle.std.specs.Int.{w32}
use Rattle.record.specs.Bytes.{bytes_of}
use Rattle.record.specs.Grid.{encode}
use Rattle.record.specs.declared.row.Row.{Row}
use Rattle.rules.specs.Ranges.{n5}
use Rattle.model.specs.Status.{is_done, number}
use Rattle.model.specs.Call.{either, refusal_area}
use Rattle.model.specs.Edit.{◌≔◌, bits32, new}
use Rattle.model.specs.declared.Status.{Status}
use Rattle.places.specs.Rows.{put_at, put_at_in}

-- the row that has the status and nothing else
unfoldable pub refusal : Status → Row
refusal s = new (n5 ≔ bits32 (number s) ∷ [])

-- ---- the area cleared
pub clear_step : (a : List ℕ) (i : ℕ) → i < length a → take i a ≡ replicate i 0
    → take (i + 1) (set a i 0) ≡ replicate (i + 1) 0
clear_step a i h e = rw (add-one, take-suc-set a i 0 h, e) (replicate-append-replicate i 1 0 ∙ rw add-one)

pub clear_done : (a : List ℕ) (i n : ℕ) → i ≤ length a → length a ≤ i → length a ≡ n → take i a ≡ replicate i 0
    → a ≡ replicate n 0
clear_done a i n h k l e =
    let q : i ≡ n = omega arith in
    sym (take_all i a (omega arith)) ∙ e ∙ ap (λ (m : ℕ). replicate m 0) q

-- ---- the status put
drop_zeros : (k n : ℕ) → drop {A = ℕ} k (replicate n 0) ≡ replicate (n - k) 0
drop_zeros zero n = rw sub-zero
drop_zeros (suc k) zero = rw zero-sub
drop_zeros (suc k) (suc n) = rw suc-sub-suc (drop_zeros k n)

encode_refusal : (s : Status) → encode (refusal s) ≡ replicate 60 0 ++ bytes_of 4 (of_z w32 (number s))
unfolding encode refusal
encode_refusal s = refl

pub refusal_put : {a b : List ℕ} {r : Row} (n : ℕ) (s : Status) → 64 ≤ n → a ≡ replicate n 0 → r ≡ refusal s
    → b ≡ put_at a 0 r
    → b ≡ refusal_area n s
unfolding refusal_area
refusal_put {a} {b} {r} n s h e f g =
    let k : 0 < length {A = ℕ} (replicate n 0) / 64 = rw length-replicate (omega arith) in
    g ∙ rw (e, f, put_at_in (replicate n 0) 0 (refusal s) k, encode_refusal s, drop_zeros 64 n)

-- ---- how an area is left
pub ends_done : {x : Bool} {a : List ℕ} (b c : List ℕ) (s : Status) → x ≡ is_done s → x ≡ true → a ≡ b
    → a ≡ either (is_done s) b c
ends_done b c s e t h = h ∙ rw (sym e ∙ t)

pub ends_refused : {x : Bool} {a : List ℕ} (b c : List ℕ) (s : Status) → x ≡ is_done s → x ≡ false → a ≡ c
    → a ≡ either (is_done s) b c
ends_refused b c s e t h = h ∙ rw (sym e ∙ t)
