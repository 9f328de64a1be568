use Rattle.racp_bounds.proofs.lemmas.Above.{core_active}
use Rattle.racp_bounds.proofs.laws.core_is_active.Goals as goal

pub returns : goal.returns
returns c = core_active
