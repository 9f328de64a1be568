use Rattle.racp_bounds.proofs.lemmas.Above.{cut_roofs}
use Rattle.racp_bounds.proofs.laws.cut_to_roofs_admits.Goals as goal

pub returns : goal.returns
returns c = cut_roofs
