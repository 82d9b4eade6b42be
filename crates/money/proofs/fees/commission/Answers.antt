-- The part of the value; the rules have the rate as the first factor.
use Rattle.std.proofs.Common.{sym, ap, ◌∙◌, ℕ, ◌*◌, mul_assoc, mul_comm, pos}
use Rattle.record.specs.Signed.{up}
use Rattle.units.specs.Units.{cents}
use Rattle.rules.specs.Ranges.{commission_whole}
use Rattle.model.specs.Money.{commission_of, rounded}
use Rattle.money.proofs.fees.commission.Goals as goal

pub returns-clause-value : goal.returns-clause-value
unfolding commission_of
returns-clause-value c =
    let shares = up c.args.shares.0 in
    let price = c.args.price.0 in
    let rate = c.args.rate.0 in
    let product = mul_comm (shares * price) rate ∙ sym (mul_assoc rate shares price) in
    rw (
      c.part.ensures.value,
      c.plain.ensures.value,
      c.value-value.ensures.value,
      c.from.ensures,
      c.from-2.ensures,
    )
    (ap (λ (n : ℕ). cents (pos (rounded n commission_whole))) product)
