use Rattle.std.proofs.Common.{ℕ, List, None, subst}
use Rattle.racp_questions.specs.FirstYes.{IsProbed}
use Rattle.racp_candidates.specs.Questions.{question_of}
use Rattle.racp_curve.proofs.ending.ask.Goals as goal

pub returns-in-Ok-clause-probed : goal.returns-in-Ok-clause-probed
returns-in-Ok-clause-probed g c = subst (λ (xs : List ℕ). IsProbed c.args.net.now (question_of xs c.args.window) None c.in-Ok.probe) c.in_ok-asked.ensures c.in-Ok.ensures.probed
