use Rattle.racp_bounds.proofs.Used.{energy_used}
use Rattle.racp_bounds.proofs.laws.energy_is_used.Goals as goal

pub returns : goal.returns
returns c = energy_used
