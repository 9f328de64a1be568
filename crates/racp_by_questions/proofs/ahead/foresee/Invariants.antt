use Rattle.racp_model.specs.Formed.{AreFormed}
use Rattle.racp_by_questions.proofs.ahead.foresee.Given as goal

abbrev pub invariant-loop-back : goal.invariant-loop-back
invariant-loop-back g l = AreFormed l.subject.net.now l.ahead.items
