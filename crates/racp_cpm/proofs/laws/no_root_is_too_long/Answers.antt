use Rattle.racp_cpm.proofs.Ends.{no_root_exactly}
use Rattle.racp_cpm.proofs.laws.no_root_is_too_long.Goals as goal

pub returns : goal.returns
returns c = no_root_exactly
