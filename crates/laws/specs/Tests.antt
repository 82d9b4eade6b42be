-- Truth values, and the propositions that they mean. A test b means P where b is true exactly when P holds: a rule is
-- computed as a test and used as a proposition. Assumes nothing.
use Rattle.std.specs.Prelude.{◌≡◌, refl, Bool, true, false, cond, not, ◌&&◌, ◌||◌, ◌⊎◌, ℕ, ◌≤◌, eqb, leb}
use Rattle.std.proofs.Common.{sym, inl, inr, ⊎_elim, leb-true, le-leb, eqb-true, eq-eqb, ne_eqb, arith}
use Rattle.std.proofs.lemmas.Bool.{false≢true, eqb-false, not-true, lt-leb}

pub and_left : (a b : Bool) → (a && b) ≡ true → a ≡ true
and_left true b e = refl
and_left false b e = e

pub and_right : (a b : Bool) → (a && b) ≡ true → b ≡ true
and_right true b e = e
and_right false b e = absurd (false≢true e)

pub and_both : (a b : Bool) → a ≡ true → b ≡ true → (a && b) ≡ true
and_both a b e f = rw (e, f)

pub and_true : (a : Bool) → (a && true) ≡ a
and_true true = refl
and_true false = refl

pub and_false : (a : Bool) → (a && false) ≡ false
and_false true = refl
and_false false = refl

pub and_swap : (a b c : Bool) → (a && (b && c)) ≡ (b && (a && c))
and_swap true b c = refl
and_swap false true c = refl
and_swap false false c = refl

pub and_assoc : (a b c : Bool) → (a && (b && c)) ≡ (a && b && c)
and_assoc true b c = refl
and_assoc false b c = refl

pub or_false : (a : Bool) → (a || false) ≡ a
or_false true = refl
or_false false = refl

pub or_true : (a : Bool) → (a || true) ≡ true
or_true true = refl
or_true false = refl

pub or_assoc : (a b c : Bool) → (a || b || c) ≡ (a || (b || c))
or_assoc true b c = refl
or_assoc false b c = refl

-- both, or neither
infix 40 ◌⇔◌
abbrev pub ◌⇔◌ : Bool → Bool → Bool
a ⇔ b = (a && b) || (not a && not b)

-- ---- what a test means
pub record Means (b : Bool) (P : Type 0) : Type 0 where
  pub shows : b ≡ true → P
  pub holds : P → b ≡ true

pub means_le : (a b : ℕ) → Means (leb a b) (a ≤ b)
means_le a b = record { shows = leb-true a b; holds = le-leb a b }

pub means_eq : (a b : ℕ) → Means (eqb a b) (a ≡ b)
means_eq a b = record { shows = eqb-true a b; holds = eq-eqb a b }

pub means_ne : (a b : ℕ) → Means (not (eqb a b)) (a ≡ b → ⊥)
means_ne a b = record { shows = λ e. eqb-false a b (not-true (eqb a b) e); holds = λ n. rw (ne_eqb a b n) }

pub means_and : {a b : Bool} {P Q : Type 0} → Means a P → Means b Q → Means (a && b) (P × Q)
means_and {a} {b} p q = record {
  shows = λ e. (p.shows (and_left a b e), q.shows (and_right a b e));
  holds = λ h. and_both a b (p.holds h.0) (q.holds h.1);
}

pub or_cases : (a b : Bool) → (a || b) ≡ true → (a ≡ true) ⊎ (b ≡ true)
or_cases true b e = inl refl
or_cases false b e = inr e

pub or_left : (a b : Bool) → a ≡ true → (a || b) ≡ true
or_left a b e = rw e

pub or_right : (a b : Bool) → b ≡ true → (a || b) ≡ true
or_right true b e = refl
or_right false b e = e

pub or_swap : (a b : Bool) → (a || b) ≡ true → (b || a) ≡ true
or_swap true b e = or_right b true refl
or_swap false b e = or_left b false e

-- one of two holds, and it is not the first
pub or_else : (a b : Bool) → (a || b) ≡ true → a ≡ false → b ≡ true
or_else true b e f = absurd (false≢true (sym f))
or_else false b e f = e

pub or_either : (a b : Bool) → (a ≡ false → b ≡ true) → (a || b) ≡ true
or_either true b h = refl
or_either false b h = h refl

-- two tests that hold together are one
pub one_truth : (a b : Bool) → (a ≡ true → b ≡ true) → (b ≡ true → a ≡ true) → a ≡ b
one_truth true b f g = sym (f refl)
one_truth false true f g = g refl
one_truth false false f g = refl

pub means_or : {a b : Bool} {P Q : Type 0} → Means a P → Means b Q → Means (a || b) (P ⊎ Q)
means_or {a} {b} p q = record {
  shows = λ e. ⊎_elim (λ h. inl (p.shows h)) (λ h. inr (q.shows h)) (or_cases a b e);
  holds = ⊎_elim (λ h. or_left a b (p.holds h)) (λ h. or_right a b (q.holds h));
}

iff_to : (a b : Bool) → (a ⇔ b) ≡ true → a ≡ true → b ≡ true
iff_to a true e h = refl
iff_to true false e h = e
iff_to false false e h = h

iff_from : (a b : Bool) → (a ⇔ b) ≡ true → b ≡ true → a ≡ true
iff_from true b e h = refl
iff_from false true e h = e
iff_from false false e h = h

iff_both : (a b : Bool) → (a ≡ true → b ≡ true) → (b ≡ true → a ≡ true) → (a ⇔ b) ≡ true
iff_both true true f g = refl
iff_both true false f g = f refl
iff_both false true f g = g refl
iff_both false false f g = refl

pub means_iff : {a b : Bool} {P Q : Type 0} → Means a P → Means b Q → Means (a ⇔ b) ((P → Q) × (Q → P))
means_iff {a} {b} p q = record {
  shows = λ e. (λ h. q.shows (iff_to a b e (p.holds h)), λ h. p.shows (iff_from a b e (q.holds h)));
  holds = λ h. iff_both a b (λ x. q.holds (h.0 (p.shows x))) (λ x. p.holds (h.1 (q.shows x)));
}

imp_to : (a b : Bool) → (not a || b) ≡ true → a ≡ true → b ≡ true
imp_to true b e h = e
imp_to false b e h = absurd (false≢true h)

imp_from : (a b : Bool) → (a ≡ true → b ≡ true) → (not a || b) ≡ true
imp_from true b h = h refl
imp_from false b h = refl

-- where the first holds, so does the second
pub means_imp : {a b : Bool} {P Q : Type 0} → Means a P → Means b Q → Means (not a || b) (P → Q)
means_imp {a} {b} p q = record {
  shows = λ e h. q.shows (imp_to a b e (p.holds h));
  holds = λ h. imp_from a b (λ x. q.holds (h (p.shows x)));
}

cond_yes : (a x y : Bool) → cond a x y ≡ true → a ≡ true → x ≡ true
cond_yes true x y e h = e
cond_yes false x y e h = absurd (false≢true h)

cond_not : (a x y : Bool) → cond a x y ≡ true → (a ≡ true → ⊥) → y ≡ true
cond_not true x y e h = absurd (h refl)
cond_not false x y e h = e

cond_both : (a x y : Bool) → (a ≡ true → x ≡ true) → ((a ≡ true → ⊥) → y ≡ true) → cond a x y ≡ true
cond_both true x y f g = f refl
cond_both false x y f g = g (λ h. false≢true h)

-- one rule where the test holds, and another where it does not
pub means_cond : {a x y : Bool} {P X Y : Type 0} → Means a P → Means x X → Means y Y
    → Means (cond a x y) ((P → X) × ((P → ⊥) → Y))
means_cond {a} {x} {y} p f g = record {
  shows = λ e. (
    λ h. f.shows (cond_yes a x y e (p.holds h)),
    λ n. g.shows (cond_not a x y e (λ t. n (p.shows t))),
  );
  holds = λ h.
      cond_both a x y (λ t. f.holds (h.0 (p.shows t))) (λ n. g.holds (h.1 (λ q. n (p.holds q))));
}

pub eqb_itself : (n : ℕ) → eqb n n ≡ true
eqb_itself n = eq-eqb n n refl

-- a number is one at least, or it is 0
pub some : (n : ℕ) (t : Bool) → eqb n 0 ≡ t → leb 1 n ≡ not t
some n true e = let z = eqb-true n 0 e in lt-leb 1 n (omega arith)
some n false e = let z = eqb-false n 0 e in le-leb 1 n (omega arith)
