use Rattle.racp_plan.proofs.Adequate.{fault_has_line}
use Rattle.racp_plan.proofs.laws.fault_has_line.Goals as goal

pub returns : goal.returns
returns c = fault_has_line
