use Rattle.racp_bounds.proofs.lemmas.Cutting.{roofs_cut_in_box}
use Rattle.racp_bounds.proofs.laws.cut_lies_in_box.Goals as goal

pub returns : goal.returns
returns c = roofs_cut_in_box
