-- What the tally program prints: "a line a type, its code and the counts of PNDG, SBMT and CMPT, single spaces
-- between"; "A refused book prints one line: `refused`, a space and the status." A text is a list of bytes, each the
-- number of an ASCII character. Assumes nothing.
use Rattle.std.specs.Prelude.{cond, List, [], ◌∷◌, ◌++◌, ℕ, zero, suc, ◌+◌, ◌/◌, ◌%◌, ltb, ℤ, pos, negsuc, get_or}
use Rattle.model.specs.Rows.{rows}
use Rattle.model.specs.Status.{number}
use Rattle.model.specs.Tally.{tally, tally_status}
use Rattle.record.specs.declared.row.Row.{Row}

abbrev space : ℕ
space = 32

abbrev minus : ℕ
minus = 45

abbrev newline : ℕ
newline = 10

-- the figure of a number below ten
abbrev pub figure : ℕ → ℕ
figure d = 48 + d

-- a number of at most k figures, the highest first, with no zero in front
abbrev pub figures : ℕ → ℕ → List ℕ
figures zero n = []
figures (suc k) n = cond (ltb n 10) (figure n ∷ []) (figures k (n / 10) ++ (figure (n % 10) ∷ []))

-- a number of 64 bits, which has at most 20 figures
unfoldable pub decimal : ℕ → List ℕ
decimal n = figures 20 n

-- a space and a number
abbrev pub count : ℕ → List ℕ
count n = (space ∷ []) ++ decimal n

-- a line: a type's code, and its counts of PNDG, SBMT and CMPT
unfoldable pub line : List ℕ → List ℕ → List ℕ
line code counts =
    (((code ++ count (get_or counts 0 0)) ++ count (get_or counts 1 0)) ++ count (get_or counts 2 0)) ++ (newline ∷ [])

-- the codes
abbrev tmb : List ℕ
tmb = 84 ∷ 77 ∷ 66 ∷ []

abbrev tms : List ℕ
tms = 84 ∷ 77 ∷ 83 ∷ []

abbrev tlb : List ℕ
tlb = 84 ∷ 76 ∷ 66 ∷ []

abbrev tls : List ℕ
tls = 84 ∷ 76 ∷ 83 ∷ []

abbrev tsl : List ℕ
tsl = 84 ∷ 83 ∷ 76 ∷ []

-- five lines
unfoldable pub square : List (List ℕ) → List ℕ
square counts =
    (((line tmb (get_or counts 0 [])
    ++ line tms (get_or counts 1 []))
    ++ line tlb (get_or counts 2 []))
    ++ line tls (get_or counts 3 []))
    ++ line tsl (get_or counts 4 [])

-- `refused`
abbrev refusal : List ℕ
refusal = 114 ∷ 101 ∷ 102 ∷ 117 ∷ 115 ∷ 101 ∷ 100 ∷ []

-- the refusal with the status -n
unfoldable pub refused : ℕ → List ℕ
refused n = refusal ++ (space ∷ minus ∷ decimal n) ++ (newline ∷ [])

-- what is printed with a status: zero is success, and a refusal is below it
abbrev told : ℤ → List Row → List ℕ
told (pos n) rs = square (tally rs)
told (negsuc n) rs = refused (suc n)

-- all that the program prints of a book
unfoldable pub answer : List ℕ → List ℕ
answer b = told (number (tally_status b)) (rows b)
