use Rattle.racp_plan.proofs.Adequate.{written_reading}
use Rattle.racp_plan.proofs.laws.written_is_read.Goals as goal

pub returns : goal.returns
returns c = written_reading
