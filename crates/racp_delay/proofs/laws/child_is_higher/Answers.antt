use Rattle.racp_delay.proofs.Rising.{child_higher}
use Rattle.racp_delay.proofs.laws.child_is_higher.Goals as goal

pub returns : goal.returns
returns c = child_higher
