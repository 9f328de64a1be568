use Rattle.racp_links.proofs.Bottom.{each_has_leaf}
use Rattle.racp_links.proofs.laws.each_task_has_leaf.Goals as goal

pub returns : goal.returns
returns c = each_has_leaf
