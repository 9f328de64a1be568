use Rattle.racp_questions.proofs.FirstYes.{one_first_yes}
use Rattle.racp_questions.proofs.laws.first_yes_is_one.Goals as goal

pub returns : goal.returns
returns c = one_first_yes
