-- What each of S1 to S10 means, as a proposition about every row of the book. `means_s4`: the test is true exactly
-- when the proposition holds. Assumes nothing.
use Rattle.std.specs.Prelude.{◌≡◌, Bool, not, ◌&&◌, ◌||◌, ◌⊎◌, ℕ, ◌≤◌, eqb, ℤ}
use mathlib.Core.List.{List, Memᴰ}
use Rattle.std.proofs.Common.{arith, to_z}
use Rattle.std.specs.Int.Signed.{le_z}
use Rattle.std.specs.Int.{w64}
use Rattle.laws.specs.Tests.{Means, and_both, and_left, and_right, means_and, means_cond, means_eq, means_imp}
use Rattle.laws.specs.Tests.{means_le, means_or}
use Rattle.laws.specs.Search.{bit, count, every, means_every, sum_z}
use Rattle.record.specs.Codes.{completed, kind_band, kind_cash, kind_customer, kind_free, kind_lot, kind_lot_history}
use Rattle.record.specs.Codes.{kind_settlement, kind_summary, kind_trade, pending, tlb}
use Rattle.keys.specs.Key.{key_of}
use Rattle.record.specs.Signed.{eq_parts, le_parts, parts_le}
use Rattle.record.specs.Symbol.{means_same}
use Rattle.keys.specs.declared.Key.{Key}
use Rattle.record.specs.declared.row.Row.{Row}
use Rattle.rules.proofs.Fits.{Fits, means_fits}
use Rattle.rules.specs.Ranges.{tax_part}
use Rattle.model.specs.Flags.{cash}
use Rattle.model.specs.Names.{a_cash, a_history, a_request, a_settlement, a_summary, a_trade, named}
use Rattle.model.specs.Rows.{found, has_key, is, there}
use Rattle.model.specs.Sound

-- every row of this kind obeys
abbrev pub Each : ℕ → (Row → Type 0) → List Row → Type 0
Each k P rs = (r : Row) → Memᴰ r rs → r.kind ≡ k → P r

-- the row of a key is there
abbrev pub There : Key → List Row → Type 0
There k rs = 1 ≤ count (has_key k) rs

means_there : (k : Key) (rs : List Row) → Means (there k rs) (There k rs)
unfolding there
means_there k rs = means_le 1 (count (has_key k) rs)

each : (k : ℕ) {p : Row → Bool} {P : Row → Type 0} (rs : List Row) → ((r : Row) → Means (p r) (P r))
    → Means (every (λ r. not (is k r) || p r) rs) (Each k P rs)
each k rs m = means_every rs (λ r. means_imp (means_eq r.kind k) (m r))

-- ---- S1
abbrev pub S1 : List Row → Type 0
S1 rs = (r : Row) → Memᴰ r rs → Fits r

pub means_s1 : (rs : List Row) → Means (Sound.s1 rs) (S1 rs)
unfolding Sound.s1
means_s1 rs = means_every rs means_fits

-- ---- S2
abbrev pub S2 : List Row → Type 0
S2 rs = (r : Row) → Memᴰ r rs → (r.kind ≡ kind_free) ⊎ (count (has_key (key_of r)) rs ≡ 1)

pub means_s2 : (rs : List Row) → Means (Sound.s2 rs) (S2 rs)
unfolding Sound.s2
means_s2 rs =
    means_every rs (λ r. means_or (means_eq r.kind kind_free) (means_eq (count (has_key (key_of r)) rs) 1))

-- ---- S3
abbrev pub S3 : List Row → Type 0
S3 rs = (r : Row) → Memᴰ r rs → (k : Key) → Memᴰ k (named r) → There k rs

pub means_s3 : (rs : List Row) → Means (Sound.s3 rs) (S3 rs)
unfolding Sound.s3
means_s3 rs = means_every rs (λ r. means_every (named r) (λ k. means_there k rs))

-- ---- S4
abbrev pub S4 : List Row → Type 0
S4 rs = Each kind_band (λ r. count (Sound.overlaps r) rs ≡ 1) rs

pub means_s4 : (rs : List Row) → Means (Sound.s4 rs) (S4 rs)
unfolding Sound.s4
means_s4 rs = each kind_band rs (λ r. means_eq (count (Sound.overlaps r) rs) 1)

-- ---- S5
abbrev pub S5 : List Row → Type 0
S5 rs = Each kind_customer (λ r. Sound.rates_of rs r.party ≤ tax_part.high) rs

pub means_s5 : (rs : List Row) → Means (Sound.s5 rs) (S5 rs)
unfolding Sound.s5
means_s5 rs = each kind_customer rs (λ r. means_le (Sound.rates_of rs r.party) tax_part.high)

-- ---- S6
abbrev pub S6 : List Row → Type 0
S6 rs =
    Each kind_trade
    (λ t.
    (t.status ≡ pending → (tlb ≤ t.form) × (count (Sound.agrees rs t) rs ≡ 1))
    × ((t.status ≡ pending → ⊥) → count (has_key (a_request t.id)) rs ≡ 0))
    rs

pub means_s6 : (rs : List Row) → Means (Sound.s6 rs) (S6 rs)
unfolding Sound.s6
means_s6 rs =
    each kind_trade rs
    (λ t.
    means_cond (means_eq t.status pending)
    (means_and (means_le tlb t.form) (means_eq (count (Sound.agrees rs t) rs) 1))
    (means_eq (count (has_key (a_request t.id)) rs) 0))

-- ---- S7
abbrev pub S7 : List Row → Type 0
S7 rs = Each kind_trade (λ t. There (a_history t.id t.status) rs × (count (Sound.higher t) rs ≡ 0)) rs

pub means_s7 : (rs : List Row) → Means (Sound.s7 rs) (S7 rs)
unfolding Sound.s7
means_s7 rs =
    each kind_trade rs
    (λ t. means_and (means_there (a_history t.id t.status) rs) (means_eq (count (Sound.higher t) rs) 0))

-- ---- S8
abbrev trade_of : List Row → ℕ → Row
trade_of rs i = found (a_trade i) rs

abbrev pub LotRight : List Row → Row → Type 0
LotRight rs l =
    (((((trade_of rs l.id).status ≡ completed) × ((trade_of rs l.id).party ≡ l.party))
    × ((trade_of rs l.id).symbol ≡ l.symbol))
    × (count (Sound.other_sign l) rs ≡ 0))
    × There (a_summary l.party l.symbol) rs

means_lot : (rs : List Row) (l : Row) → Means (Sound.lot_right rs l) (LotRight rs l)
means_lot rs l =
    means_and
    (means_and
    (means_and
    (means_and (means_eq (trade_of rs l.id).status completed) (means_eq (trade_of rs l.id).party l.party))
    (means_same (trade_of rs l.id).symbol l.symbol))
    (means_eq (count (Sound.other_sign l) rs) 0))
    (means_there (a_summary l.party l.symbol) rs)

abbrev pub SummaryRight : List Row → Row → Type 0
SummaryRight rs s =
    (1 ≤ count (Sound.lot_of s.party s.symbol) rs)
    × (sum_z (Sound.shares_of s.party s.symbol) rs ≡ to_z w64 s.m1)

means_equal_z : (a b : ℤ) → Means (le_z a b && le_z b a) (a ≡ b)
means_equal_z a b = record {
  shows = λ e.
      let p = le_parts a b (and_left (le_z a b) (le_z b a) e) in
      let q = le_parts b a (and_right (le_z a b) (le_z b a) e) in
      eq_parts a b (omega arith);
  holds = λ h. rw h (and_both (le_z b b) (le_z b b) (parts_le b b (omega arith)) (parts_le b b (omega arith)));
}

means_summary : (rs : List Row) (s : Row) → Means (Sound.summary_right rs s) (SummaryRight rs s)
means_summary rs s =
    means_and (means_le 1 (count (Sound.lot_of s.party s.symbol) rs))
    (means_equal_z (sum_z (Sound.shares_of s.party s.symbol) rs) (to_z w64 s.m1))

abbrev pub S8 : List Row → Type 0
S8 rs =
    (r : Row) → Memᴰ r rs → (r.kind ≡ kind_lot → LotRight rs r) × (r.kind ≡ kind_summary → SummaryRight rs r)

pub means_s8 : (rs : List Row) → Means (Sound.s8 rs) (S8 rs)
unfolding Sound.s8
means_s8 rs =
    means_every rs
    (λ r.
    means_and (means_imp (means_eq r.kind kind_lot) (means_lot rs r))
    (means_imp (means_eq r.kind kind_summary) (means_summary rs r)))

-- ---- S9
abbrev pub S9 : List Row → Type 0
S9 rs =
    (r : Row) → Memᴰ r rs
    → ((r.kind ≡ kind_trade → count (has_key (a_settlement r.id)) rs ≡ bit (eqb r.status completed))
    × (r.kind ≡ kind_settlement
    → (r.flags ≡ bit (cash (trade_of rs r.id).flags)) × (count (has_key (a_cash r.id)) rs ≡ r.flags)))
    × (r.kind ≡ kind_cash
    → ((found (a_settlement r.id) rs).flags ≡ 1) × ((found (a_settlement r.id) rs).m1 ≡ r.m1))

pub means_s9 : (rs : List Row) → Means (Sound.s9 rs) (S9 rs)
unfolding Sound.s9
means_s9 rs =
    means_every rs
    (λ r.
    means_and
    (means_and
    (means_imp (means_eq r.kind kind_trade)
    (means_eq (count (has_key (a_settlement r.id)) rs) (bit (eqb r.status completed))))
    (means_imp (means_eq r.kind kind_settlement)
    (means_and (means_eq r.flags (bit (cash (trade_of rs r.id).flags)))
    (means_eq (count (has_key (a_cash r.id)) rs) r.flags))))
    (means_imp (means_eq r.kind kind_cash)
    (means_and (means_eq (found (a_settlement r.id) rs).flags 1)
    (means_eq (found (a_settlement r.id) rs).m1 r.m1))))

-- ---- S10
abbrev pub S10 : List Row → Type 0
S10 rs =
    Each kind_lot_history (λ r. ((trade_of rs r.id).status ≡ completed) × ((trade_of rs r.m2).status ≡ completed)) rs

pub means_s10 : (rs : List Row) → Means (Sound.s10 rs) (S10 rs)
unfolding Sound.s10
means_s10 rs =
    each kind_lot_history rs
    (λ r. means_and (means_eq (trade_of rs r.id).status completed) (means_eq (trade_of rs r.m2).status completed))

-- ---- the whole
pub record SoundBook (rs : List Row) : Type 0 where
  pub s1 : S1 rs
  pub s2 : S2 rs
  pub s3 : S3 rs
  pub s4 : S4 rs
  pub s5 : S5 rs
  pub s6 : S6 rs
  pub s7 : S7 rs
  pub s8 : S8 rs
  pub s9 : S9 rs
  pub s10 : S10 rs

means_all : (rs : List Row)
    → Means (Sound.sound rs)
    (((((((((S1 rs × S2 rs) × S3 rs) × S4 rs) × S5 rs) × S6 rs) × S7 rs) × S8 rs) × S9 rs) × S10 rs)
unfolding Sound.sound
means_all rs =
    let four = means_and (means_and (means_and (means_s1 rs) (means_s2 rs)) (means_s3 rs)) (means_s4 rs) in
    let seven = means_and (means_and (means_and four (means_s5 rs)) (means_s6 rs)) (means_s7 rs) in
    means_and (means_and (means_and seven (means_s8 rs)) (means_s9 rs)) (means_s10 rs)

pub means_sound : (rs : List Row) → Means (Sound.sound rs) (SoundBook rs)
means_sound rs = record {
  shows = λ e.
      let all = (means_all rs).shows e in
      record {
        s1 = all.0.0.0.0.0.0.0.0.0;
        s2 = all.0.0.0.0.0.0.0.0.1;
        s3 = all.0.0.0.0.0.0.0.1;
        s4 = all.0.0.0.0.0.0.1;
        s5 = all.0.0.0.0.0.1;
        s6 = all.0.0.0.0.1;
        s7 = all.0.0.0.1;
        s8 = all.0.0.1;
        s9 = all.0.1;
        s10 = all.1;
      };
  holds = λ b.
      (means_all rs).holds
      (((((((((b.s1, b.s2), b.s3), b.s4), b.s5), b.s6), b.s7), b.s8), b.s9), b.s10);
}
