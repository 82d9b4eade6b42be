-- Numbers in a list of bytes: "Numbers are little-endian." A symbol is no number: its bytes are compared from the
-- first one on, and as a number with the first byte highest they are compared so. Assumes nothing.
use Rattle.std.specs.Prelude.{◌≡◌, refl, List, [], ◌∷◌, ℕ, zero, suc, ◌+◌, ◌*◌, ◌/◌, ◌%◌, ◌^◌, ◌≤◌, ◌<◌, get_or, set}
use Rattle.std.proofs.Common.{ap, subst, ◌∙◌, arith, add-one, pow-suc, suc-mul, mul-le-mul_right, mod-lt, div-add-mod', mod-eq_of_lt}
use Rattle.std.proofs.Math.Nat.{mul-add-div_right, mul-add-mod_self_right, div-eq_of_lt}
use Rattle.std.proofs.lemmas.List.Edits.{sets}
use Rattle.laws.specs.Lists.{listed}

-- the number of the k bytes at a, the first one lowest
abbrev pub le : ℕ → List ℕ → ℕ → ℕ
le zero l a = 0
le (suc k) l a = get_or l a 0 + 256 * le k l (a + 1)

-- the k bytes of x, the lowest one first
abbrev pub bytes_of : ℕ → ℕ → List ℕ
bytes_of zero x = []
bytes_of (suc k) x = x % 256 ∷ bytes_of k (x / 256)

-- the number of the k bytes at a, the first one highest
abbrev pub be : ℕ → List ℕ → ℕ → ℕ
be zero l a = 0
be (suc k) l a = get_or l a 0 * 256 ^ k + be k l (a + 1)

-- the k bytes of x, the highest one first
abbrev pub spelt : ℕ → ℕ → List ℕ
spelt zero x = []
spelt (suc k) x = x / 256 ^ k ∷ spelt k (x % 256 ^ k)

-- each element is a byte, as owning a slice of them tells
abbrev pub Bytes : List ℕ → Type 0
Bytes l = (i : ℕ) → get_or l i 0 < 256

pub le_8 : (l : List ℕ) (a : ℕ) → le 8 l a ≡ le 4 l a + 4294967296 * le 4 l (a + 4)
le_8 l a = let e : a + 4 ≡ a + 1 + 1 + 1 + 1 = omega arith in rw e (omega arith)

pub be_8 : (l : List ℕ) (a : ℕ) → be 8 l a ≡ be 4 l a * 4294967296 + be 4 l (a + 4)
be_8 l a = let e : a + 4 ≡ a + 1 + 1 + 1 + 1 = omega arith in rw e (omega arith)

-- a number of four bytes, in the other order
abbrev pub turned : ℕ → ℕ
turned x = x % 256 * 16777216 + x / 256 % 256 * 65536 + x / 65536 % 256 * 256 + x / 16777216

pub turned_le : (a b c d : ℕ) → a < 256 → b < 256 → c < 256 → d < 256
    → turned (a + 256 * (b + 256 * (c + 256 * d))) ≡ a * 16777216 + (b * 65536 + (c * 256 + d))
turned_le a b c d ha hb hc hd =
    let x = a + 256 * (b + 256 * (c + 256 * d)) in
    let e : x % 256 ≡ a = omega arith in
    let f : x / 256 ≡ b + 256 * (c + 256 * d) = omega arith in
    let g : (b + 256 * (c + 256 * d)) % 256 ≡ b = omega arith in
    let h : x / 65536 ≡ c + 256 * d = omega arith in
    let k : (c + 256 * d) % 256 ≡ c = omega arith in
    let m : x / 16777216 ≡ d = omega arith in
    rw (e, f, g, h, k, m) (omega arith)

pub turned_at : (l : List ℕ) (a : ℕ) → Bytes l → turned (le 4 l a) ≡ be 4 l a
turned_at l a h =
    let x = get_or l a 0 in
    let y = get_or l (a + 1) 0 in
    let z = get_or l (a + 1 + 1) 0 in
    let w = get_or l (a + 1 + 1 + 1) 0 in
    let e : le 4 l a ≡ x + 256 * (y + 256 * (z + 256 * w)) = omega arith in
    let f : x * 16777216 + (y * 65536 + (z * 256 + w)) ≡ be 4 l a = omega arith in
    rw e (turned_le x y z w (h a) (h (a + 1)) (h (a + 1 + 1)) (h (a + 1 + 1 + 1)) ∙ f)

-- l with the w bytes of x at `at`: shut, so that a run of stores is a term that `cc` follows
unfoldable pub stored : List ℕ → ℕ → ℕ → ℕ → List ℕ
stored l at w x = sets l at (bytes_of w x)

-- one byte of the k is stored: what is left
pub put_step : (l : List ℕ) (p q k j y : ℕ) → k ≡ suc j → q ≡ suc p
    → sets (set l p (y % 256)) q (bytes_of j (y / 256)) ≡ sets l p (bytes_of k y)
put_step l p q k j y e f = rw (e, f)

pub put_done : (l : List ℕ) (p k y : ℕ) → k ≡ 0 → sets l p (bytes_of k y) ≡ l
put_done l p k y e = rw e

-- ---- the number of a number's bytes is the number, and the bytes of the bytes' number are the bytes
-- what `le` and `be` compute of the bytes of x
abbrev pub low_first : ℕ → ℕ → ℕ
low_first zero x = 0
low_first (suc k) x = x % 256 + 256 * low_first k (x / 256)

abbrev pub high_first : ℕ → ℕ → ℕ
high_first zero x = 0
high_first (suc k) x = x / 256 ^ k * 256 ^ k + high_first k (x % 256 ^ k)

pub low_first_holds : (k x : ℕ) → x < 256 ^ k → low_first k x ≡ x
low_first_holds zero x h = omega arith
low_first_holds (suc k) x h =
    let p : 256 ^ suc k ≡ 256 ^ k * 256 = pow-suc 256 k in
    let e = low_first_holds k (x / 256) (omega arith) in
    omega arith

pub bytes_le : (k a : ℕ) (l : List ℕ) → Bytes l → bytes_of k (le k l a) ≡ listed 0 k a l
bytes_le zero a l h = refl
bytes_le (suc k) a l h =
    let b = get_or l a 0 in
    let y = le k l (a + 1) in
    let hb : b < 256 = h a in
    let e : (b + 256 * y) % 256 ≡ b = omega arith in
    let q : (b + 256 * y) / 256 ≡ y = omega arith in
    rw (e, q, bytes_le k (a + 1) l h, add-one)

positive : (k : ℕ) → 0 < 256 ^ k
positive zero = omega arith
positive (suc k) = let p = pow-suc 256 k in let h = positive k in omega arith

pub high_first_holds : (k x : ℕ) → x < 256 ^ k → high_first k x ≡ x
high_first_holds zero x h = omega arith
high_first_holds (suc k) x h =
    ap (λ (y : ℕ). x / 256 ^ k * 256 ^ k + y) (high_first_holds k (x % 256 ^ k) (mod-lt x (positive k)))
    ∙ div-add-mod' x (256 ^ k)

be_below : (k a : ℕ) (l : List ℕ) → Bytes l → be k l a < 256 ^ k
be_below zero a l h = omega arith
be_below (suc k) a l h =
    let b = get_or l a 0 in
    let m = 256 ^ k in
    let p : 256 ^ suc k ≡ m * 256 = pow-suc 256 k in
    let y : be k l (a + 1) < m = be_below k (a + 1) l h in
    let t : b * m + m ≤ 256 * m = subst (λ (n : ℕ). n ≤ 256 * m) (suc-mul b m) (mul-le-mul_right m (h a)) in
    omega arith

pub spelt_be : (k a : ℕ) (l : List ℕ) → Bytes l → spelt k (be k l a) ≡ listed 0 k a l
spelt_be zero a l h = refl
spelt_be (suc k) a l h =
    let b = get_or l a 0 in
    let y = be k l (a + 1) in
    let m = 256 ^ k in
    let hy : y < m = be_below k (a + 1) l h in
    let q : (b * m + y) / m ≡ b = mul-add-div_right (positive k) b y ∙ rw (div-eq_of_lt hy) (omega arith) in
    let e : (b * m + y) % m ≡ y = mul-add-mod_self_right b m y ∙ mod-eq_of_lt hy in
    rw (q, e, spelt_be k (a + 1) l h, add-one)
