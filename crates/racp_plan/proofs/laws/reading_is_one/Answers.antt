use Rattle.racp_plan.proofs.Adequate.{one_reading}
use Rattle.racp_plan.proofs.laws.reading_is_one.Goals as goal

pub returns : goal.returns
returns c = one_reading
