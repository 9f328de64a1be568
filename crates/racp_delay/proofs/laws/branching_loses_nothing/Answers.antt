use Rattle.racp_delay.proofs.Branching.{loses_nothing}
use Rattle.racp_delay.proofs.laws.branching_loses_nothing.Goals as goal

pub returns : goal.returns
returns c = loses_nothing
