use Rattle.racp_desk.proofs.LeftRuns.{logs_left}
use Rattle.racp_desk.proofs.laws.legal_logs_are_left.Goals as goal

pub returns : goal.returns
returns c = logs_left
