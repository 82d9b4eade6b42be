-- Demand 2 line by line: no two lines of a call's table have one status, so a status that is due is that of one line.
-- Assumes nothing.
use Rattle.std.specs.Prelude.{◌≡◌, refl, Bool, true, not, ◌&&◌, List, [], ◌∷◌, ◌⊎◌, ◌↔◌, ℕ, eqb, ℤ}
use Rattle.std.proofs.Common.{sym, ap, ◌∙◌, inl, inr, ⊎_elim, of_z}
use Rattle.std.proofs.lemmas.Bool.{eqb-false, not-true}
use Rattle.std.specs.Int.{w32}
use Rattle.laws.specs.Tests.{and_left, and_right}
use Rattle.model.specs.Call.{Call, a_feed, a_lookup, a_result, an_order}
use Rattle.model.specs.Status.{number}
use Rattle.model.specs.declared.Status.{Status}
use Rattle.model.specs.declared.Status.TheVariants.{Done}
use Rattle.demands.proofs.Checked.{demand_2}
use Rattle.demands.specs.Demand2.{Due, Exactly, Line, LineByLine, table}

-- ---- statuses told apart by their numbers
abbrev code : Status → ℕ
code s = of_z w32 (number s)

-- the status is none of the table's, and not success
abbrev fresh : Status → List Line → Bool
fresh s [] = not (eqb (code s) (code Done))
fresh s (l ∷ ls) = not (eqb (code s) (code l.status)) && fresh s ls

abbrev apart : List Line → Bool
apart [] = true
apart (l ∷ ls) = fresh l.status ls && apart ls

other : (s t : Status) → not (eqb (code s) (code t)) ≡ true → s ≡ t → ⊥
other s t e q = eqb-false (code s) (code t) (not-true (eqb (code s) (code t)) e) (ap code q)

-- the status is one of the table's, or success
abbrev Known : Status → List Line → Type 0
Known s [] = Done ≡ s
Known s (l ∷ ls) = (l.status ≡ s) ⊎ Known s ls

fresh_known : (t s : Status) (ls : List Line) → fresh t ls ≡ true → Known s ls → t ≡ s → ⊥
fresh_known t s [] e k q = other t Done e (q ∙ sym k)
fresh_known t s (l ∷ ls) e k q =
    ⊎_elim
    (λ h. other t l.status (and_left (not (eqb (code t) (code l.status))) (fresh t ls) e) (q ∙ sym h))
    (λ h. fresh_known t s ls (and_right (not (eqb (code t) (code l.status))) (fresh t ls) e) h q)
    k

due_known : (s : Status) (ls : List Line) → Due s ls → Known s ls
due_known s [] d = sym d
due_known s (l ∷ ls) d = ⊎_elim (λ h. inl h.0) (λ h. inr (due_known s ls h.1)) d

-- ---- line by line
lines : (n : ℤ) (NoEarlier : Type 0) (ls : List Line) → apart ls ≡ true
    → ((s : Status) → Known s ls → (n ≡ number s) ↔ (NoEarlier × Due s ls)) → Exactly n NoEarlier ls
lines n NoEarlier [] e h = let done = h Done refl in (λ q. (done.0 q).0, λ q. done.1 (q, refl))
lines n NoEarlier (l ∷ ls) e h =
    let new = and_left (fresh l.status ls) (apart ls) e in
    let own = h l.status (inl refl) in (
      (
        λ q.
            let d = own.0 q in (
              d.0,
              ⊎_elim (λ x. x.1)
                  (λ x. absurd (fresh_known l.status l.status ls new (due_known l.status ls x.1) refl))
                  d.1,
            ),
        λ q. own.1 (q.0, inl (refl, q.1)),
      ),
      lines n (NoEarlier × (l.When → ⊥)) ls (and_right (fresh l.status ls) (apart ls) e)
          (λ s k. (
            λ q.
                let d = (h s (inr k)).0 q in
                ⊎_elim (λ x. absurd (fresh_known l.status s ls new k x.0)) (λ x. ((d.0, x.0), x.1)) d.1,
            λ q. (h s (inr k)).1 (q.0.0, inr (q.0.1, q.1)),
          )),
    )

all_apart : (c : Call) (book input answer : List ℕ) → apart (table c book input answer) ≡ true
all_apart an_order book input answer = refl
all_apart a_result book input answer = refl
all_apart a_feed book input answer = refl
all_apart a_lookup book input answer = refl

pub line_by_line : LineByLine
line_by_line c book input answer returned book' answer' p =
    lines returned (Unit {0}) (table c book input answer) (all_apart c book input answer)
    (λ s k.
    let due = demand_2 c book input answer returned book' answer' p s in
    (λ q. (tt, due.0 q), λ q. due.1 q.1))
