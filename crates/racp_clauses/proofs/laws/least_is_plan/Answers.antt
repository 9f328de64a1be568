use Rattle.racp_clauses.proofs.Leading.{least-plan}
use Rattle.racp_clauses.proofs.laws.least_is_plan.Goals as goal

pub returns : goal.returns
returns c = least-plan
