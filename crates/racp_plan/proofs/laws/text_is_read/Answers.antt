use Rattle.racp_plan.proofs.Adequate.{text_read}
use Rattle.racp_plan.proofs.laws.text_is_read.Goals as goal

pub returns : goal.returns
returns c = text_read
