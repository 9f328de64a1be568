use Rattle.racp_lexfix.proofs.ByLength.{no_plan}
use Rattle.racp_lexfix.proofs.laws.impossible_is_no_plan.Goals as goal

pub returns : goal.returns
returns c = no_plan
