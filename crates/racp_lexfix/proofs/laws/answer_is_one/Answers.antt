use Rattle.racp_lexfix.proofs.OneAnswer.{one_answer}
use Rattle.racp_lexfix.proofs.laws.answer_is_one.Goals as goal

pub returns : goal.returns
returns c = one_answer
