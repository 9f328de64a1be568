use Rattle.racp_clauses.proofs.Work.{work-in_window}
use Rattle.racp_clauses.proofs.laws.least_work_is_done.Goals as goal

pub returns : goal.returns
returns c = work-in_window
