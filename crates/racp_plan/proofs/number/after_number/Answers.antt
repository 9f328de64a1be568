use Rattle.std.proofs.Common.{arith, sym, ◌∙◌}
use Rattle.racp_plan.proofs.lemmas.Digits.{number_none, number_some, number_other}
use Rattle.racp_plan.proofs.number.after_number.Goals as goal

pub returns-in_err-digits : goal.returns-in_err-digits
returns-in_err-digits c = rw c.from_residual.ensures (number_none c.args.bytes.now c.args.wanted (omega arith) c.in_err-digits.ensures)

pub returns-then-are_digits_of : goal.returns-then-are_digits_of
returns-then-are_digits_of c = number_some c.args.bytes.now c.in_ok-digits.digits.now c.in_ok-digits.rest.now c.args.wanted c.in_ok-digits.ensures (sym c.are_digits_of.ensures ∙ c.if-are_digits_of.true)

pub returns-else-are_digits_of : goal.returns-else-are_digits_of
returns-else-are_digits_of c = number_other c.args.bytes.now c.in_ok-digits.digits.now c.in_ok-digits.rest.now c.args.wanted (omega arith) c.in_ok-digits.ensures (sym c.are_digits_of.ensures ∙ c.if-are_digits_of.false)
