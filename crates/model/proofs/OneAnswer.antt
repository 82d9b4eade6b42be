-- "That no second answer fits is proved": a call's promise fixes what it returns, the book and the answer.
use Rattle.std.specs.Prelude.{◌≡◌, List, ℕ, ℤ}
use Rattle.std.proofs.Common.{sym, ◌∙◌}
use Rattle.model.specs.Call.{Call, Promise, Reply, run}

-- no second answer fits
pub one_answer : (reply : Reply) (n m : ℤ) (b c a d : List ℕ) → Promise reply n b a → Promise reply m c d
    → (n ≡ m) × (b ≡ c) × (a ≡ d)
one_answer reply n m b c a d p q =
    (p.returns ∙ sym q.returns, p.keeps ∙ sym q.keeps, p.says ∙ sym q.says)

pub call_unique : (c : Call) (b input answer : List ℕ) (n m : ℤ) (k l d e : List ℕ)
    → Promise (run c b input answer) n k d → Promise (run c b input answer) m l e → (n ≡ m) × (k ≡ l) × (d ≡ e)
call_unique c b input answer = one_answer (run c b input answer)
