use Rattle.racp_trees.specs.declared.step.Step.TheVariants.{L, D, C}
use Rattle.racp_trees.proofs.Spelling.{step_is, no_step}
use Rattle.racp_trees.proofs.reading.read_step.Goals as goal

pub returns-in-Some : goal.returns-in-Some
returns-in-Some c = step_is c.args.text.now (L c.in-Some.job) c.in-Some.rest c.in-Some.ensures.0 c.in-Some.ensures.1

pub returns-in-Some-number_on : goal.returns-in-Some-number_on
returns-in-Some-number_on c = step_is c.args.text.now (D c.in-Some-number_on.time) c.in-Some-number_on.rest c.in-Some-number_on.ensures.0 c.in-Some-number_on.ensures.1

pub returns-in_err-node : goal.returns-in_err-node
returns-in_err-node c = rw c.from_residual.ensures (no_step c.args.text.now c.in_default.ensures c.in_default-number_on.ensures c.in_err-node.ensures)

pub returns : goal.returns
returns c = step_is c.args.text.now (C c.in_ok-node.node) c.in_ok-node.rest c.in_ok-node.ensures.0 c.in_ok-node.ensures.1
