-- A sorted list is decided by the counts of what is sorted. Assumes nothing.
use Rattle.std.specs.Prelude.{◌≡◌, Bool, true, false}
use Rattle.std.proofs.Math.Path.{refl, sym, ap}
use Rattle.std.proofs.Common.{◌∙◌}
use mathlib.Core.List.{List, [], ◌∷◌, Memᴰ}
use Rattle.laws.specs.Search.{keep}
use Rattle.laws.specs.Sort.{insert, sort}
use Rattle.reorder.specs.Agree.{Agree, gathered, gathered_agree}
use Rattle.preserved.specs.Cases.{by_cases, cond_no, cond_yes, no}

module _ {A : Type 0} (before : A → A → Bool) (tot : (x y : A) → before x y ≡ false → before y x ≡ true)
    (trans : (x y z : A) → before x y ≡ true → before y z ≡ true → before x z ≡ true) where
  abbrev Anti : A → A → Type 0
  Anti x y = before x y ≡ true → before y x ≡ true → x ≡ y

  front : (x y : A) → before x y ≡ true → (l : List A) → insert before x (y ∷ l) ≡ x ∷ y ∷ l
  unfolding insert
  front x y h l = cond_yes _ _ h

  past : (x y : A) → before x y ≡ false → (l : List A) → insert before x (y ∷ l) ≡ y ∷ insert before x l
  unfolding insert
  past x y h l = cond_no _ _ h

  both : (x y : A) → Anti x y → (z : A) (l : List A) → before y z ≡ true → before x z ≡ true
      → insert before x (y ∷ z ∷ l) ≡ insert before y (x ∷ z ∷ l)
  both x y anti z l h k =
      by_cases (before x y)
      (λ m. by_cases (before y x)
      (λ n. rw (anti m n) refl)
      (λ n. front x y m (z ∷ l) ∙ ap (x ∷◌) (sym (front y z h l)) ∙ sym (past y x n (z ∷ l))))
      (λ m. past x y m (z ∷ l) ∙ ap (y ∷◌) (front x z k l) ∙ sym (front y x (tot x y m) (z ∷ l)))

  -- two that go before one another must be equal
  insert_swap : (x y : A) → Anti x y → (l : List A)
      → insert before x (insert before y l) ≡ insert before y (insert before x l)
  unfolding insert
  insert_swap x y anti [] =
      by_cases (before x y)
      (λ h. by_cases (before y x) (λ k. rw (anti h k) refl) (λ k. rw (h, k) refl))
      (λ h. rw (h, tot x y h) refl)
  insert_swap x y anti (z ∷ l) =
      by_cases (before y z)
      (λ h. by_cases (before x z)
      (λ k.
      ap (insert before x) (front y z h l) ∙ both x y anti z l h k ∙ sym (ap (insert before y) (front x z k l)))
      (λ k. by_cases (before x y)
      (λ m. no k (trans x y z m h))
      (λ m.
      ap (insert before x) (front y z h l) ∙ past x y m (z ∷ l) ∙ ap (y ∷◌) (past x z k l)
      ∙ sym (front y z h (insert before x l)) ∙ sym (ap (insert before y) (past x z k l)))))
      (λ h. by_cases (before x z)
      (λ k. by_cases (before y x)
      (λ m. no h (trans y x z m k))
      (λ m.
      ap (insert before x) (past y z h l) ∙ front x z k (insert before y l) ∙ ap (x ∷◌) (sym (past y z h l))
      ∙ sym (past y x m (z ∷ l)) ∙ sym (ap (insert before y) (front x z k l))))
      (λ k.
      ap (insert before x) (past y z h l) ∙ past x z k (insert before y l) ∙ ap (z ∷◌) (insert_swap x y anti l)
      ∙ sym (past y z h (insert before x l)) ∙ sym (ap (insert before y) (past x z k l))))

  module _ (p : A → Bool) where
    sort_gathered : (l : List A) → sort before (keep p l) ≡ gathered p (insert before) [] l
    unfolding sort keep gathered
    sort_gathered [] = refl
    sort_gathered (x ∷ l) =
        by_cases (p x)
        (λ v.
        ap (sort before) (cond_yes _ _ v) ∙ ap (insert before x) (sort_gathered l) ∙ sym (cond_yes _ _ v))
        (λ v. ap (sort before) (cond_no _ _ v) ∙ sort_gathered l ∙ sym (cond_no _ _ v))

    pub sort_agree : (same : A → A → Bool) (tells : (a b : A) → same a b ≡ true → a ≡ b)
        (itself : (a : A) → same a a ≡ true) (s t : List A)
        → ((x y : A) → Memᴰ x t → Memᴰ y t → p x ≡ true → p y ≡ true → Anti x y) → Agree same p s t
        → sort before (keep p s) ≡ sort before (keep p t)
    sort_agree same tells itself s t anti h =
        sort_gathered s
        ∙ gathered_agree same tells itself p (insert before) [] s t
        (λ x y m n d e. insert_swap x y (anti x y m n d e)) h
        ∙ sym (sort_gathered t)
