use Rattle.racp_trees.proofs.Naming.{named_here, other_here, tail_is}
use Rattle.racp_trees.proofs.closed.named_at.Goals as goal

pub returns-in-C : goal.returns-in-C
returns-in-C c = named_here c.args.text.now _ c.args.at c.in_ok-step.step c.in-C.node c.in_ok-step.field-0-1.now (tail_is c.args.text.now c.args.at) c.in-C.is c.in_ok-step.ensures.0 c.in_ok-step.ensures.1

pub returns-in_default : goal.returns-in_default
returns-in_default c = other_here c.args.text.now _ c.args.at c.in_ok-step.step c.in_ok-step.field-0-1.now (tail_is c.args.text.now c.args.at) c.in_ok-step.ensures.0 c.in_ok-step.ensures.1 c.in_default.not-C
