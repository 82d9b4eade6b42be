-- Demand 1: "A refusal leaves the book as found; all answer bytes are zero but the status, signed, in bytes 60-63";
-- and where the input or the answer area has the wrong length, "nothing at all is written". It is said of every call,
-- all bytes and all lengths, and of what the call returns and leaves as its promise has it: `Promise` of the model's
-- Call.antt, which the exported functions of crate book ensure. That a call ends, whatever it is given, and that it
-- changes nothing but the book and the answer area is part of what the proof of such a function says: a function that
-- is proved ends, and it writes only where it was lent an area to change. Proved in Refused.antt. Assumes nothing.
use Rattle.std.specs.Prelude.{◌≡◌, false, List, ◌⊎◌, ℕ, ◌≤◌, ◌<◌, ℤ, length, get_or}
use Rattle.std.specs.Int.{w32}
use Rattle.std.proofs.Common.{to_z}
use Rattle.record.specs.Bytes.{le}
use Rattle.model.specs.Call.{Call, Promise, lengths_of, run}
use Rattle.model.specs.Status.{number}
use Rattle.model.specs.declared.Status.TheVariants.{BadLength, Done}

-- an answer area that holds a status and zeros: bytes 60 to 63, lowest first, are the status as a signed number
pub record Says (status : ℤ) (found area : List ℕ) : Type 0 where
  pub as_long : length area ≡ length found
  pub signed : to_z w32 (le 4 area 60) ≡ status
  pub zeros : (i : ℕ) → (i < 60) ⊎ (64 ≤ i) → get_or area i 0 ≡ 0

-- a call is made on a book, an input and an answer area; it returns a number, and leaves the book and the area so
module _ (c : Call) (book input answer : List ℕ) (returned : ℤ) (book' answer' : List ℕ) where
  pub record Keeps : Type 0 where
    -- "A refusal leaves the book as found"
    pub book_kept : (returned ≡ number Done → ⊥) → book' ≡ book
    -- "all answer bytes are zero but the status, signed, in bytes 60-63 (-100 excepted)"
    pub status_said : (returned ≡ number Done → ⊥) → (returned ≡ number BadLength → ⊥) → Says returned answer answer'
    -- "input or answer area has the wrong length; nothing at all is written"
    pub unwritten : lengths_of c (length input) (length answer) ≡ false
        → (returned ≡ number BadLength) × (book' ≡ book) × (answer' ≡ answer)

abbrev pub Demand1 : Type 0
Demand1 =
    (c : Call) (book input answer : List ℕ) (returned : ℤ) (book' answer' : List ℕ)
    → Promise (run c book input answer) returned book' answer' → Keeps c book input answer returned book' answer'
