use Rattle.racp_delay.proofs.Raising.{none_before}
use Rattle.racp_delay.proofs.laws.no_conflict_before.Goals as goal

pub returns : goal.returns
returns c = none_before
