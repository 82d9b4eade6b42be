-- The commission band of a trade, and what the search for it answers: "a rate, a band with rate zero, or no band".
-- Assumes nothing.
use Rattle.std.specs.Prelude.{Bool, true, false, cond, ◌&&◌, List, ℕ, eqb, leb}
use Rattle.laws.specs.Search.{the}
use Rattle.record.specs.Codes.{kind_band, kind_free}
use Rattle.record.specs.declared.row.Row.{Row}
use Rattle.model.specs.declared.BandAnswer.{BandAnswer}
use Rattle.model.specs.declared.BandAnswer.TheVariants.{NoBand, Rate, ZeroRate}
use Rattle.model.specs.Rows.{is, nothing}

-- "the one band that holds the shares": of the trade type, the customer's tier and the security's exchange
abbrev pub band_for : ℕ → ℕ → ℕ → ℕ → Row → Bool
band_for form tier exchange shares r =
    is kind_band r && eqb r.form form && eqb r.status tier && eqb r.flags exchange && leb r.n1 shares
    && leb shares r.n2

-- what a band of this rate answers
abbrev pub rated : ℕ → BandAnswer
rated rate = cond (eqb rate 0) ZeroRate (Rate (record { 0 = rate }))

-- what the row that was found answers: the row of a free record, that no band was
abbrev pub answer_of : Row → BandAnswer
answer_of r = cond (is kind_free r) NoBand (rated r.n3)

-- the search for the band that holds so many shares
unfoldable pub band_answer : List Row → ℕ → ℕ → ℕ → ℕ → BandAnswer
band_answer rs form tier exchange shares = answer_of (the (band_for form tier exchange shares) nothing rs)

-- ---- the two answers that refuse a trade, -732 or -841 and -735 or -842
abbrev pub zero_rate : BandAnswer → Bool
zero_rate (Rate r) = false
zero_rate ZeroRate = true
zero_rate NoBand = false

abbrev pub no_band : BandAnswer → Bool
no_band (Rate r) = false
no_band ZeroRate = false
no_band NoBand = true

-- the rate that a commission goes by; a trade that has none is refused, so none is charged
abbrev pub commission_rate : BandAnswer → ℕ
commission_rate (Rate r) = r.0
commission_rate ZeroRate = 0
commission_rate NoBand = 0
