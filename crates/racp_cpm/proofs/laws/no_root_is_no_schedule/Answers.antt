use Rattle.racp_cpm.proofs.Ends.{no_schedule_exactly}
use Rattle.racp_cpm.proofs.laws.no_root_is_no_schedule.Goals as goal

pub returns : goal.returns
returns c = no_schedule_exactly
