use Rattle.std.proofs.Common.{arith, sym}
use Rattle.racp_derivations.proofs.Numbering.{number-none, number-some, number-great}
use Rattle.racp_derivations.proofs.words.number_of.Goals as goal

pub returns-in_err-number : goal.returns-in_err-number
returns-in_err-number c = rw c.from_residual.ensures (sym (number-none c.args.word.now c.in_err-number.ensures))

pub returns-then-number-le-MOST_NUMBER : goal.returns-then-number-le-MOST_NUMBER
returns-then-number-le-MOST_NUMBER c = sym (number-some c.args.word.now c.in_ok-number.number c.in_ok-number.ensures (omega (arith, c.if-number-le-MOST_NUMBER.true)))

pub returns-else-number-le-MOST_NUMBER : goal.returns-else-number-le-MOST_NUMBER
returns-else-number-le-MOST_NUMBER c = sym (number-great c.args.word.now c.in_ok-number.number c.in_ok-number.ensures (omega (arith, c.if-number-le-MOST_NUMBER.false)))
