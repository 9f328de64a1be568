use Rattle.racp_delay.proofs.Children.{has_child}
use Rattle.racp_delay.proofs.laws.each_has_child.Goals as goal

pub returns : goal.returns
returns c = has_child
