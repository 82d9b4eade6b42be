-- Lots by time and number: of two lots one comes first, and two that come first of one another have one number. Assumes
-- nothing.
use Rattle.std.specs.Prelude.{◌≡◌, Bool, true, false, ◌&&◌, ◌⊎◌, ◌≤◌, ◌<◌, eqb, leb, ltb}
use Rattle.std.proofs.Common.{inl, inr, ⊎_elim, arith, eq-eqb, eqb-true, le-leb, leb-false, leb-true, lt-ltb, ltb-false, ltb-true}
use Rattle.laws.specs.Tests.{and_both, and_left, and_right, or_cases, or_left, or_right}
use Rattle.record.specs.declared.row.Row.{Row}
use Rattle.model.specs.Lots.{before, earlier}
use Rattle.preserved.specs.Cases.{by_cases, no}

abbrev First : Row → Row → Type 0
First a b = (a.time < b.time) ⊎ ((a.time ≡ b.time) × (a.id ≤ b.id))

shows : (a b : Row) → earlier a b ≡ true → First a b
shows a b e =
    let same = eqb a.time b.time in
    let low = leb a.id b.id in
    ⊎_elim (λ h. inl (ltb-true a.time b.time h))
    (λ h.
    inr (
      eqb-true a.time b.time (and_left same low h),
      leb-true a.id b.id (and_right same low h),
    ))
    (or_cases (ltb a.time b.time) (same && low) e)

holds : (a b : Row) → First a b → earlier a b ≡ true
holds a b (inl h) = or_left (ltb a.time b.time) _ (lt-ltb a.time b.time h)
holds a b (inr h) =
    or_right (ltb a.time b.time) _
    (and_both (eqb a.time b.time) (leb a.id b.id) (eq-eqb a.time b.time h.0)
    (le-leb a.id b.id h.1))

earlier_total : (a b : Row) → earlier a b ≡ false → earlier b a ≡ true
earlier_total a b e =
    by_cases (ltb b.time a.time)
    (λ h. holds b a (inl (ltb-true b.time a.time h)))
    (λ h. by_cases (ltb a.time b.time)
    (λ k. no e (holds a b (inl (ltb-true a.time b.time k))))
    (λ k.
    let p = ltb-false b.time a.time h in
    let q = ltb-false a.time b.time k in
    by_cases (leb a.id b.id)
    (λ l. no e (holds a b (inr (omega arith, leb-true a.id b.id l))))
    (λ l. let r = leb-false a.id b.id l in holds b a (inr (omega arith, omega arith)))))

earlier_trans : (a b c : Row) → earlier a b ≡ true → earlier b c ≡ true → earlier a c ≡ true
earlier_trans a b c e f = holds a c (go (shows a b e) (shows b c f))
  where
    go : First a b → First b c → First a c
    go (inl h) (inl k) = inl (omega arith)
    go (inl h) (inr k) = let p = k.0 in inl (omega arith)
    go (inr h) (inl k) = let p = h.0 in inl (omega arith)
    go (inr h) (inr k) =
        let p = h.0 in
        let q = k.0 in
        let r = h.1 in
        let s = k.1 in
        inr (omega arith, omega arith)

earlier_both : (a b : Row) → earlier a b ≡ true → earlier b a ≡ true → a.id ≡ b.id
earlier_both a b e f = go (shows a b e) (shows b a f)
  where
    go : First a b → First b a → a.id ≡ b.id
    go (inl h) (inl k) = absurd (omega arith)
    go (inl h) (inr k) = let p = k.0 in absurd (omega arith)
    go (inr h) (inl k) = let p = h.0 in absurd (omega arith)
    go (inr h) (inr k) = let r = h.1 in let s = k.1 in omega arith

-- ---- rising or falling
pub before_total : (last : Bool) (a b : Row) → before last a b ≡ false → before last b a ≡ true
before_total true a b e = earlier_total b a e
before_total false a b e = earlier_total a b e

pub before_trans : (last : Bool) (a b c : Row) → before last a b ≡ true → before last b c ≡ true
    → before last a c ≡ true
before_trans true a b c e f = earlier_trans c b a f e
before_trans false a b c e f = earlier_trans a b c e f

pub before_both : (last : Bool) (a b : Row) → before last a b ≡ true → before last b a ≡ true → a.id ≡ b.id
before_both true a b e f = earlier_both a b f e
before_both false a b e f = earlier_both a b e f
