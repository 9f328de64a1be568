use Rattle.racp_delay.proofs.Branching.{cover}
use Rattle.racp_delay.proofs.laws.children_cover.Goals as goal

pub returns : goal.returns
returns c = cover
