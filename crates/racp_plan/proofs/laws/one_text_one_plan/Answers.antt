use Rattle.racp_plan.proofs.Telling.{same_plan}
use Rattle.racp_plan.proofs.laws.one_text_one_plan.Goals as goal

pub returns : goal.returns
returns c = same_plan
