use Rattle.racp_lexfix.proofs.ByLength.{no_plan_by_length}
use Rattle.racp_lexfix.proofs.laws.impossible_is_by_length.Goals as goal

pub returns : goal.returns
returns c = no_plan_by_length c.critical_is_greatest_finish.ensures
