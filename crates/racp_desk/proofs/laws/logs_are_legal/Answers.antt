use Rattle.racp_desk.proofs.LegalRuns.{logs_legal}
use Rattle.racp_desk.proofs.laws.logs_are_legal.Goals as goal

pub returns : goal.returns
returns c = logs_legal
