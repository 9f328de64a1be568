use Rattle.racp_delay.proofs.Raising.{none_then}
use Rattle.racp_delay.proofs.laws.no_conflict_then.Goals as goal

pub returns : goal.returns
returns c = none_then
