use Rattle.racp_delay.proofs.Subsets.{subsets}
use Rattle.racp_delay.proofs.laws.subsets_go.Goals as goal

pub returns : goal.returns
returns c = subsets
