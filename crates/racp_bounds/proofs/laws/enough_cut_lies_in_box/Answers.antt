use Rattle.racp_bounds.proofs.lemmas.Cutting.{enough_cut_in_box}
use Rattle.racp_bounds.proofs.laws.enough_cut_lies_in_box.Goals as goal

pub returns : goal.returns
returns c = enough_cut_in_box
