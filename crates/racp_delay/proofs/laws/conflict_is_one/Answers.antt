use Rattle.racp_delay.proofs.Subsets.{one_conflict}
use Rattle.racp_delay.proofs.laws.conflict_is_one.Goals as goal

pub returns : goal.returns
returns c = one_conflict
