use Rattle.racp_trees.proofs.Refuting.{certificate_proved}
use Rattle.racp_trees.proofs.laws.certificate_proves.Goals as goal

pub returns : goal.returns
returns c = certificate_proved c.trees_refute.ensures
