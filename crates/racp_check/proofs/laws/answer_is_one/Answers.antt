use Rattle.racp_check.proofs.OneAnswer.{one_answer}
use Rattle.racp_check.proofs.laws.answer_is_one.Goals as goal

pub returns : goal.returns
returns c = one_answer
