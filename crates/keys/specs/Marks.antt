-- The fields of a kind's key as eight tests, in the way of the code: for each kind of the table, whether it is this one
-- and its key has the field. `marks_tell`: they are the lists of the kinds, read off the same table. Assumes nothing.
use Rattle.std.specs.Prelude.{◌≡◌, refl, Bool, false, cond, ◌&&◌, ◌||◌, List, [], ◌∷◌, ℕ, eqb, drop}
use Rattle.std.proofs.Common.{sym, ap, ◌∙◌}
use Rattle.laws.specs.Tests.{or_assoc, or_false}
use Rattle.record.specs.Symbol.{no_symbol}
use Rattle.record.specs.declared.row.Row.{Row}
use Rattle.kinds.specs.declared.limits.Marks.{Marks}
use Rattle.keys.specs.Key.{among, among_from, by_flags, by_form, by_id, by_m2, by_n1, by_party, by_status, by_symbol}
use Rattle.keys.specs.Key.{key_of}
use Rattle.rules.specs.Ranges.{flags, form, id, m2, n1, party, status, symbol}
use Rattle.rules.specs.Rules.{Kind, kinds}
use Rattle.keys.specs.declared.Key.{Key}

abbrev no_marks : Marks
no_marks = record {
  form = false;
  status = false;
  flags = false;
  party = false;
  id = false;
  symbol = false;
  n1 = false;
  m2 = false;
}

-- the marks of a kind where it is this one, or those before
abbrev pub marked_by : Bool → Marks → Marks → Marks
marked_by is m b = record {
  form = (m.form && is) || b.form;
  status = (m.status && is) || b.status;
  flags = (m.flags && is) || b.flags;
  party = (m.party && is) || b.party;
  id = (m.id && is) || b.id;
  symbol = (m.symbol && is) || b.symbol;
  n1 = (m.n1 && is) || b.n1;
  m2 = (m.m2 && is) || b.m2;
}

-- an entry's key, field by field
abbrev marks : Kind → Marks
marks k = record {
  form = among form k.key;
  status = among status k.key;
  flags = among flags k.key;
  party = among party k.key;
  id = among id k.key;
  symbol = among symbol k.key;
  n1 = among n1 k.key;
  m2 = among m2 k.key;
}

abbrev pub all_keys : List Kind
all_keys = drop 1 kinds

abbrev pub trading_keys : List Kind
trading_keys = drop 9 kinds

unfoldable pub marks_of : ℕ → List Kind → Marks
marks_of k [] = no_marks
marks_of k (e ∷ es) = marked_by (eqb k e.number) (marks e) (marks_of k es)

-- none of no kinds, and those of one kind more
pub no_marks_holds : (k : ℕ) → no_marks ≡ marks_of k []
unfolding marks_of
no_marks_holds k = refl

pub one_more : (k : ℕ) (e : Kind) (es : List Kind) {m r : Marks} → r ≡ marked_by (eqb k e.number) (marks e) m
    → m ≡ marks_of k es → r ≡ marks_of k (e ∷ es)
unfolding marks_of
one_more k e es h g = h ∙ ap (λ (x : Marks). marked_by (eqb k e.number) (marks e) x) g

-- ---- one of these kinds, from the right
abbrev any_of : ℕ → List ℕ → Bool
any_of k [] = false
any_of k (j ∷ js) = eqb k j || any_of k js

from_is : (b : Bool) (k : ℕ) (js : List ℕ) → among_from b k js ≡ (b || any_of k js)
from_is b k [] = sym (or_false b)
from_is b k (j ∷ js) = from_is (b || eqb k j) k js ∙ or_assoc b (eqb k j) (any_of k js)

among_is : (k : ℕ) (js : List ℕ) → among k js ≡ any_of k js
among_is k [] = refl
among_is k (j ∷ js) = from_is (eqb k j) k js

-- the marks of a kind, read off the lists
abbrev pub listed : ℕ → Marks
listed k = record {
  form = among k by_form;
  status = among k by_status;
  flags = among k by_flags;
  party = among k by_party;
  id = among k by_id;
  symbol = among k by_symbol;
  n1 = among k by_n1;
  m2 = among k by_m2;
}

pub marks_are : (k : ℕ) → marks_of k all_keys ≡ listed k
unfolding marks_of
marks_are k = sym (λ i. record {
  form = among_is k by_form i;
  status = among_is k by_status i;
  flags = among_is k by_flags i;
  party = among_is k by_party i;
  id = among_is k by_id i;
  symbol = among_is k by_symbol i;
  n1 = among_is k by_n1 i;
  m2 = among_is k by_m2 i;
})

-- a row's key by the marks of its kind
abbrev kept_by : Marks → Row → Key
kept_by m r = record {
  kind = r.kind;
  form = cond m.form r.form 0;
  status = cond m.status r.status 0;
  flags = cond m.flags r.flags 0;
  party = cond m.party r.party 0;
  id = cond m.id r.id 0;
  symbol = cond m.symbol r.symbol no_symbol;
  n1 = cond m.n1 r.n1 0;
  m2 = cond m.m2 r.m2 0;
}

pub marks_tell : (r : Row) → key_of r ≡ kept_by (marks_of r.kind all_keys) r
unfolding key_of
marks_tell r = ap (λ (m : Marks). kept_by m r) (sym (marks_are r.kind))
