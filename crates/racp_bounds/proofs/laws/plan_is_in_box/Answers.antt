use Rattle.racp_bounds.proofs.lemmas.Cutting.{plan_in_box}
use Rattle.racp_bounds.proofs.laws.plan_is_in_box.Goals as goal

pub returns : goal.returns
returns c = plan_in_box
