use Rattle.std.proofs.Common.{inr}
use Rattle.std.proofs.lemmas.Result.{IfOk-weaker}
use Rattle.racp_prove.proofs.by_trees.answer_certificate.Goals as goal

pub returns-in_default : goal.returns-in_default
returns-in_default g c = IfOk-weaker c.unproved.result _ _ (λ printed line. inr line) c.unproved.ensures.line
