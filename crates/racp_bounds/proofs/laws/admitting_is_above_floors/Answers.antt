use Rattle.racp_bounds.proofs.lemmas.Above.{admitting_above}
use Rattle.racp_bounds.proofs.laws.admitting_is_above_floors.Goals as goal

pub returns : goal.returns
returns c = admitting_above
