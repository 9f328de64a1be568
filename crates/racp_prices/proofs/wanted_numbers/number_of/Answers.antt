use Rattle.std.proofs.Common.{arith}
use Rattle.racp_prices.proofs.Commas.{no_number, number_is, too_great}
use Rattle.racp_prices.proofs.wanted_numbers.number_of.Goals as goal

pub returns-in_err-number : goal.returns-in_err-number
returns-in_err-number c = rw c.from_residual.ensures (no_number c.args.digits.now c.in_err-number.ensures)

pub returns-then-number : goal.returns-then-number
returns-then-number c = number_is c.args.digits.now c.in_ok-number.number c.in_ok-number.ensures.0 c.in_ok-number.ensures.1 (omega (arith, c.if-number.true))

pub returns-else-number : goal.returns-else-number
returns-else-number c = too_great c.args.digits.now c.in_ok-number.number c.in_ok-number.ensures.1 (omega (arith, c.if-number.false))
