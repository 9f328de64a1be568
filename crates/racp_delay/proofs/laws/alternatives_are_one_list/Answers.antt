use Rattle.racp_delay.proofs.Subsets.{one_list}
use Rattle.racp_delay.proofs.laws.alternatives_are_one_list.Goals as goal

pub returns : goal.returns
returns c = one_list
