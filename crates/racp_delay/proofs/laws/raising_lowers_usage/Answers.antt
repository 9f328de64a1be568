use Rattle.racp_delay.proofs.Raising.{raising_lowers}
use Rattle.racp_delay.proofs.laws.raising_lowers_usage.Goals as goal

pub returns : goal.returns
returns c = raising_lowers
