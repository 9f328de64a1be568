use Rattle.racp_bounds.proofs.lemmas.Above.{below_roofs}
use Rattle.racp_bounds.proofs.laws.floors_are_below_roofs.Goals as goal

pub returns : goal.returns
returns c = below_roofs
