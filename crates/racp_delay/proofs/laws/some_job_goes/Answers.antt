use Rattle.racp_delay.proofs.Rising.{some_job_goes}
use Rattle.racp_delay.proofs.laws.some_job_goes.Goals as goal

pub returns : goal.returns
returns c = some_job_goes
