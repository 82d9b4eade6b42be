-- The statuses by their numbers, each computed once: a number is read back from its 32 bits, it is zero exactly for
-- success, and no two statuses have the same. Assumes nothing.
use Rattle.std.specs.Prelude.{◌≡◌, refl, true, List, [], ◌∷◌, ◌<◌, eqb, ltb, ℤ}
use Rattle.std.proofs.Common.{sym, ap, ◌∙◌, ltb-true, eqb-true, to_z, of_z}
use Rattle.std.specs.Int.{w32}
use Rattle.laws.specs.Search.{the}
use Rattle.model.specs.Status.{is_done, number}
use Rattle.model.specs.declared.Status.{Status}
use Rattle.model.specs.declared.Status.TheVariants.{BadBook, BadInput, BadLength, Done, FeedNoSecurity}
use Rattle.model.specs.declared.Status.TheVariants.{LookupNoTrade, NoRoom, OrderNoAccount, OrderNoBand}
use Rattle.model.specs.declared.Status.TheVariants.{OrderNoCharge, OrderNoRate, OrderNoSecurity, OrderNoTax}
use Rattle.model.specs.declared.Status.TheVariants.{OrderNotPermitted, OverLimit, ResultNoBand, ResultNoRate}
use Rattle.model.specs.declared.Status.TheVariants.{ResultNoTax, ResultNoTrade, ResultNotSubmitted, Unsound}

abbrev statuses : List Status
statuses =
    Done ∷ BadLength ∷ BadBook ∷ Unsound ∷ BadInput ∷ OverLimit ∷ NoRoom ∷ OrderNoAccount ∷ OrderNotPermitted
    ∷ OrderNoSecurity ∷ OrderNoTax ∷ OrderNoRate ∷ OrderNoBand ∷ OrderNoCharge ∷ ResultNoTrade ∷ ResultNotSubmitted
    ∷ ResultNoTax ∷ ResultNoRate ∷ ResultNoBand ∷ FeedNoSecurity ∷ LookupNoTrade ∷ []

-- the status whose number it is
abbrev named : ℤ → Status
named z = the (λ (s : Status). eqb (of_z w32 (number s)) (of_z w32 z)) Done statuses

abbrev Numbered : Status → Type 0
Numbered s =
    (to_z w32 (of_z w32 (number s)) ≡ number s) × (eqb (of_z w32 (number s)) 0 ≡ is_done s) × (named (number s) ≡ s)
    × (ltb (of_z w32 (number s)) 0x1_0000_0000 ≡ true)

numbered : (s : Status) → Numbered s
unfolding the
numbered Done = (refl, refl, refl, refl)
numbered BadLength = (refl, refl, refl, refl)
numbered BadBook = (refl, refl, refl, refl)
numbered Unsound = (refl, refl, refl, refl)
numbered BadInput = (refl, refl, refl, refl)
numbered OverLimit = (refl, refl, refl, refl)
numbered NoRoom = (refl, refl, refl, refl)
numbered OrderNoAccount = (refl, refl, refl, refl)
numbered OrderNotPermitted = (refl, refl, refl, refl)
numbered OrderNoSecurity = (refl, refl, refl, refl)
numbered OrderNoTax = (refl, refl, refl, refl)
numbered OrderNoRate = (refl, refl, refl, refl)
numbered OrderNoBand = (refl, refl, refl, refl)
numbered OrderNoCharge = (refl, refl, refl, refl)
numbered ResultNoTrade = (refl, refl, refl, refl)
numbered ResultNotSubmitted = (refl, refl, refl, refl)
numbered ResultNoTax = (refl, refl, refl, refl)
numbered ResultNoRate = (refl, refl, refl, refl)
numbered ResultNoBand = (refl, refl, refl, refl)
numbered FeedNoSecurity = (refl, refl, refl, refl)
numbered LookupNoTrade = (refl, refl, refl, refl)

pub number_back : (z : ℤ) (s : Status) → z ≡ number s → to_z w32 (of_z w32 z) ≡ number s
number_back z s e = rw e (numbered s).0

-- which status is none
pub done_by : (z : ℤ) (s : Status) → z ≡ number s → eqb (of_z w32 z) 0 ≡ is_done s
done_by z s e = rw e (numbered s).1

pub one_status : (s t : Status) → number s ≡ number t → s ≡ t
one_status s t e = sym (numbered s).2 ∙ ap named e ∙ (numbered t).2

pub fits_32 : (s : Status) → of_z w32 (number s) < 0x1_0000_0000
fits_32 s = ltb-true (of_z w32 (number s)) 0x1_0000_0000 (numbered s).3

-- the number of success is that of no refusal
pub done_number : (s : Status) → is_done s ≡ true → number s ≡ number Done
done_number s e =
    let bits = eqb-true (of_z w32 (number s)) 0 (done_by (number s) s refl ∙ e) in
    sym (number_back (number s) s refl) ∙ ap (to_z w32) bits

pub is_done_holds : (s : Status) → is_done s ≡ true → s ≡ Done
is_done_holds s e = one_status s Done (done_number s e)
