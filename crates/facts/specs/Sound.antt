-- The rows of a sound book: each has its key alone, and what it names is there. Assumes nothing.
use Rattle.std.specs.Prelude.{◌≡◌, refl, true, false}
use mathlib.Core.List.{[], ◌∷◌, List, Memᴰ}
use Rattle.std.proofs.Common.{⊎_elim}
use borrow.Author.Tests.{eqb-false, le-leb}
use Rattle.laws.specs.Search.{count}
use Rattle.record.specs.Codes.{kind_account, kind_free, kind_trade}
use Rattle.keys.specs.Key.{key_of}
use Rattle.keys.specs.declared.Key.{Key}
use Rattle.record.specs.declared.row.Row.{Row}
use Rattle.model.specs.Names.{a_broker, a_customer, a_security, an_account, named}
use Rattle.model.specs.Rows.{has_key, is, there}
use Rattle.model.specs.Sound.{sound}
use Rattle.model.specs.SoundMeans.{SoundBook, means_sound}

-- ---- what a row names
pub names_account : (t : Row) → t.kind ≡ kind_trade → named t ≡ an_account t.party ∷ a_security t.symbol ∷ []
unfolding named
names_account t e = rw e

pub names_broker : (a : Row) → a.kind ≡ kind_account → named a ≡ a_broker a.n1 ∷ a_customer a.n2 ∷ []
unfolding named
names_broker a e = rw e

-- ---- rows of a sound book
module _ (rs : List Row) (good : sound rs ≡ true) where
  book : SoundBook rs
  book = (means_sound rs).shows good

  pub once : (o : Row) → Memᴰ o rs → is kind_free o ≡ false → count (has_key (key_of o)) rs ≡ 1
  once o m live = ⊎_elim (λ f. absurd (eqb-false o.kind kind_free live f)) (λ c. c) (book.s2 o m)

  -- the first that a row names is there
  pub named_there : (r : Row) (k : Key) (ks : List Key) → Memᴰ r rs → named r ≡ k ∷ ks → there k rs ≡ true
  unfolding there
  named_there r k ks m e = le-leb 1 (count (has_key k) rs) (book.s3 r m k (rw e (Memᴰ.head refl)))
