-- The numbers on the way to a tax, a commission, a settlement and a balance, each under the name that it has in the
-- code; and that each is below 2^62 where what it is made of fits: "Work the rounding out from whole part and
-- remainder, so that each intermediate stays below 2^62." (2026-06) Assumes nothing.
use Rattle.std.specs.Prelude.{ℕ, ◌+◌, ◌*◌, ◌/◌, ◌%◌, ◌^◌, ◌≤◌, ◌<◌, ℤ, pos, neg_ℤ, nat_abs, ◌+ℤ◌, ◌-ℤ◌}
use Rattle.rules.specs.Ranges.{fee}

-- ---- `part`: so much of an amount as a rate is of its whole
module _ (amount rate whole : ℕ) where
  abbrev pub quotient : ℕ
  quotient = amount / whole

  abbrev pub remainder : ℕ
  remainder = amount % whole

  abbrev pub from_quotient : ℕ
  from_quotient = quotient * rate

  abbrev pub product : ℕ
  product = remainder * rate

  -- by a half, so that the division rounds to the nearest
  abbrev pub raised : ℕ
  raised = product + whole / 2

  abbrev pub from_remainder : ℕ
  from_remainder = raised / whole

  abbrev pub part : ℕ
  part = from_quotient + from_remainder

pub record PartBelow (amount rate whole : ℕ) : Type 0 where
  pub quotient_below : quotient amount rate whole < 2 ^ 62
  pub remainder_below : remainder amount rate whole < 2 ^ 62
  pub from_quotient_below : from_quotient amount rate whole < 2 ^ 62
  pub product_below : product amount rate whole < 2 ^ 62
  pub raised_below : raised amount rate whole < 2 ^ 62
  pub from_remainder_below : from_remainder amount rate whole < 2 ^ 62
  pub part_below : part amount rate whole < 2 ^ 62
  pub part_fits : part amount rate whole ≤ fee.high

-- ---- the settlement, of a buy and of a sell
module _ (value charge commission : ℕ) where
  abbrev pub with_charge : ℤ
  with_charge = pos value +ℤ pos charge

  abbrev pub paid : ℤ
  paid = with_charge +ℤ pos commission

  abbrev pub without_charge : ℤ
  without_charge = pos value -ℤ pos charge

  abbrev pub received : ℤ
  received = without_charge -ℤ pos commission

pub record SettlementBelow (value charge commission held : ℕ) : Type 0 where
  pub with_charge_below : nat_abs (with_charge value charge commission) < 2 ^ 62
  pub paid_below : nat_abs (paid value charge commission) < 2 ^ 62
  pub negated_below : nat_abs (neg_ℤ (paid value charge commission)) < 2 ^ 62
  pub bought_below : nat_abs (neg_ℤ (paid value charge commission) -ℤ pos held) < 2 ^ 62
  pub without_charge_below : nat_abs (without_charge value charge commission) < 2 ^ 62
  pub received_below : nat_abs (received value charge commission) < 2 ^ 62
  pub sold_below : nat_abs (received value charge commission -ℤ pos held) < 2 ^ 62
