use Rattle.racp_clauses.proofs.Leading.{first-holds}
use Rattle.racp_clauses.proofs.laws.least_units_are_first.Goals as goal

pub returns : goal.returns
returns c = first-holds
