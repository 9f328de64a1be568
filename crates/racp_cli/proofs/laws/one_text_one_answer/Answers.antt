use Rattle.racp_cli.proofs.Telling.{same_answer}
use Rattle.racp_cli.proofs.laws.one_text_one_answer.Goals as goal

pub returns : goal.returns
returns c = same_answer
