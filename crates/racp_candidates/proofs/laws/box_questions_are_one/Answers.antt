use Rattle.racp_candidates.proofs.lemmas.OneBox.{one_box}
use Rattle.racp_candidates.proofs.laws.box_questions_are_one.Goals as goal

pub returns : goal.returns
returns c = one_box
