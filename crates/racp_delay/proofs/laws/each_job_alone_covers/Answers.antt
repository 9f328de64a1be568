use Rattle.racp_delay.proofs.Alone.{each_alone}
use Rattle.racp_delay.proofs.laws.each_job_alone_covers.Goals as goal

pub returns : goal.returns
returns c = each_alone
