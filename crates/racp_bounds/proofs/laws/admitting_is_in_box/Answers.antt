use Rattle.racp_bounds.proofs.lemmas.Sharpened.{admitting_in_box}
use Rattle.racp_bounds.proofs.laws.admitting_is_in_box.Goals as goal

pub returns : goal.returns
returns c = admitting_in_box
