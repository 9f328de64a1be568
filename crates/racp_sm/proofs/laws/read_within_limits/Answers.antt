use Rattle.racp_sm.proofs.Limits.{reading_ok}
use Rattle.racp_sm.proofs.laws.read_within_limits.Goals as goal

pub returns : goal.returns
returns c = reading_ok
