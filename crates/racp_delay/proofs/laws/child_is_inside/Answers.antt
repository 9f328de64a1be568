use Rattle.racp_delay.proofs.Branching.{child_inside}
use Rattle.racp_delay.proofs.laws.child_is_inside.Goals as goal

pub returns : goal.returns
returns c = child_inside
