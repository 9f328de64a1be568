use Rattle.racp_model.proofs.lemmas.Orders.{plan_unique}
use Rattle.racp_model.proofs.laws.plan_is_unique.Goals as goal

pub returns : goal.returns
returns c = plan_unique
