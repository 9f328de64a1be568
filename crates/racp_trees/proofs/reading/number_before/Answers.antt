use Rattle.racp_trees.proofs.Spelling.{no_end, no_number, number_is}
use Rattle.racp_trees.proofs.reading.number_before.Goals as goal

pub returns-in_err-digits : goal.returns-in_err-digits
returns-in_err-digits c = rw c.from_residual.ensures (no_end c.args.end c.args.text.now c.requires c.in_err-digits.ensures)

pub returns-in_err-number : goal.returns-in_err-number
returns-in_err-number c = rw c.from_residual-in_err-number.ensures (no_number c.args.end c.args.text.now c.in_ok-digits.digits.now c.in_ok-digits.rest.now c.requires c.in_ok-digits.ensures c.in_err-number.ensures)

pub returns : goal.returns
returns c = number_is c.args.end c.args.text.now c.in_ok-digits.digits.now c.in_ok-digits.rest c.in_ok-number.number c.in_ok-digits.ensures c.in_ok-number.ensures
