use Rattle.racp_lexfix.proofs.SomeAnswer.{some_answer}
use Rattle.racp_lexfix.proofs.laws.answer_exists.Goals as goal

pub returns : goal.returns
returns c = some_answer c.critical_is_greatest_finish.ensures
