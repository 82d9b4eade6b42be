-- Rows added in the free places of a book: what is counted, summed and found then is that of the rows that were there
-- and of those that come. Assumes nothing.
use Rattle.std.specs.Prelude.{◌≡◌, Bool, true, false, ℕ, ◌+◌, ◌≤◌, ℤ, pos, length}
use Rattle.std.proofs.Math.Path.{refl}
use Rattle.std.proofs.Common.{sym, ap, ◌∙◌, arith}
use Rattle.std.proofs.lemmas.Bool.{false≢true}
use mathlib.Core.List.{List, [], ◌∷◌, Memᴰ}
use Rattle.laws.specs.All.{All, all_map}
use Rattle.laws.specs.Change.{put, puts}
use Rattle.laws.specs.Keep.{count_map, count_none}
use Rattle.laws.specs.Search.{count, sum_z, the, total}
use Rattle.laws.specs.Puts.{Inside, Quiet, count_length, count_no, each_row, has_come, mem_map, news, olds}
use Rattle.laws.specs.Puts.{puts_count, puts_total, the_puts}
use Rattle.laws.specs.Total.{total_map, total_zero}
use Rattle.record.specs.declared.row.Row.{Row}
use Rattle.model.specs.Rows.{nothing, same_row}
use Rattle.facts.specs.Rows.{row_itself, same_rows}
use Rattle.facts.specs.Posted.{adds}
use Rattle.preserved.specs.FeedLaws.{map_put, sum_map}
use Rattle.preserved.specs.Cases.{by_cases}

-- the rows with others added
abbrev pub grown : List Row → List Row → List Row
grown rs hs = puts same_row (adds hs) rs

-- ---- sums of signed numbers, where neither the row that goes nor the one that comes has any
module _ (f : Row → ℤ) where
  put_sum : (o n : Row) (l : List Row) → f o ≡ pos 0 → f n ≡ pos 0 → sum_z f (put same_row o n l) ≡ sum_z f l
  put_sum o n l a b =
      sym (sum_map f (put same_row o n l))
      ∙ ap (sum_z (λ (z : ℤ). z)) (map_put same_row same_rows o n f (b ∙ sym a) l)
      ∙ sum_map f l

  pub grown_sum : (hs rs : List Row) → f nothing ≡ pos 0 → All (λ (h : Row). f h ≡ pos 0) hs
      → sum_z f (grown rs hs) ≡ sum_z f rs
  unfolding puts
  grown_sum [] rs a b = refl
  grown_sum (h ∷ hs) rs a b =
      grown_sum hs (put same_row nothing h rs) a (λ x m. b x (Memᴰ.tail m))
      ∙ put_sum nothing h rs a (b h (Memᴰ.head refl))

module _ (rs hs : List Row) (space : length hs ≤ count (same_row nothing) rs) where
  -- each takes the place of nothing
  places : (p : Row → Bool) → count p (olds (adds hs)) ≡ count (λ (h : Row). p nothing) hs
  places p =
      count_map p (λ (w : Row × Row). w.0) (adds hs)
      ∙ count_map (λ (w : Row × Row). p w.0) (λ (h : Row). (nothing, h)) hs

  comers : (p : Row → Bool) → count p (news (adds hs)) ≡ count p hs
  comers p =
      count_map p (λ (w : Row × Row). w.1) (adds hs)
      ∙ count_map (λ (w : Row × Row). p w.1) (λ (h : Row). (nothing, h)) hs

  inside : Inside same_row (adds hs) rs
  inside x =
      by_cases (same_row x nothing)
      (λ e.
      let q : x ≡ nothing = same_rows x nothing e in
      let a = places (same_row nothing) in
      let b = count_length (λ (h : Row). same_row nothing nothing) hs in
      rw q (omega arith))
      (λ e.
      let a = places (same_row x) in
      let b = count_none (λ (h : Row). same_row x nothing) hs (λ h. e) in
      omega arith)

  pub grown_each : (P : Row → Type 0) → All P rs → All P hs → All P (grown rs hs)
  grown_each P old new =
      each_row same_row same_rows row_itself (adds hs) rs inside P old
      (all_map (λ (h : Row). (nothing, h)) (λ (w : Row × Row). P w.1) hs new)

  pub grown_comes : (h : Row) → Memᴰ h hs → Memᴰ h (grown rs hs)
  grown_comes h m =
      has_come same_row same_rows row_itself (adds hs) rs inside (nothing, h)
      (mem_map (λ (x : Row). (nothing, x)) h hs m)

  -- ---- a test that a free place does not pass
  module _ (p : Row → Bool) (free : p nothing ≡ false) where
    pub grown_count : count p (grown rs hs) ≡ count p rs + count p hs
    grown_count =
        let law = puts_count same_row same_rows row_itself p (adds hs) rs inside in
        let a = places p in
        let b = count_none (λ (h : Row). p nothing) hs (λ h. free) in
        let c = comers p in
        omega arith

    -- nor any row that comes
    module _ (none : All (λ (h : Row). p h ≡ false) hs) where
      quiet : All (Quiet p) (adds hs)
      quiet = all_map (λ (h : Row). (nothing, h)) (Quiet p) hs (λ h m. (free, none h m))

      pub still_count : count p (grown rs hs) ≡ count p rs
      still_count =
          let a = grown_count in
          let b = count_no p hs none in
          omega arith

      pub still_the : (d : Row) → the p d (grown rs hs) ≡ the p d rs
      still_the d = the_puts same_row same_rows p d (adds hs) rs quiet

      pub still_was : (x : Row) → Memᴰ x (grown rs hs) → p x ≡ true → Memᴰ x rs
      still_was =
          grown_each (λ (x : Row). p x ≡ true → Memᴰ x rs) (λ x m e. m)
          (λ h m e. absurd (false≢true (sym (none h m) ∙ e)))

  -- ---- a sum that neither a free place nor a row that comes adds to
  pub grown_total : (μ : Row → ℕ) → μ nothing ≡ 0 → All (λ (h : Row). μ h ≡ 0) hs → total μ (grown rs hs) ≡ total μ rs
  grown_total μ free none =
      let law = puts_total same_row same_rows row_itself μ (adds hs) rs inside in
      let a : total μ (olds (adds hs)) ≡ 0 =
      total_map μ (λ (w : Row × Row). w.0) (adds hs)
      ∙ total_map (λ (w : Row × Row). μ w.0) (λ (h : Row). (nothing, h)) hs
      ∙ total_zero (λ (h : Row). μ nothing) hs (λ h m. free)
      in
      let b : total μ (news (adds hs)) ≡ 0 =
      total_map μ (λ (w : Row × Row). w.1) (adds hs)
      ∙ total_map (λ (w : Row × Row). μ w.1) (λ (h : Row). (nothing, h)) hs
      ∙ total_zero μ hs none
      in
      omega arith
