use Rattle.std.proofs.Common.{arith}
use Rattle.racp_plan.proofs.lemmas.Digits.{spelled, not_spelled}
use Rattle.racp_plan.proofs.number.are_digits_of.Goals as goal

pub returns-in-Some : goal.returns-in-Some
returns-in-Some c = spelled c.args.digits.now c.in-Some.number c.args.wanted (omega arith) c.in-Some.ensures.0 c.in-Some.ensures.1

pub returns-in-None : goal.returns-in-None
returns-in-None c = not_spelled c.args.digits.now c.args.wanted (omega arith) c.in-None.ensures
