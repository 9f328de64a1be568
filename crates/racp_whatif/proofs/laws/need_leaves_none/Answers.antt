use Rattle.racp_whatif.proofs.Refuting.{need-leaves_none}
use Rattle.racp_whatif.proofs.laws.need_leaves_none.Goals as goal

pub returns : goal.returns
returns c = need-leaves_none
