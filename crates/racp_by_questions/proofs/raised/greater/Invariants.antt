use Rattle.racp_by_questions.proofs.Raising.{IsRaising}
use Rattle.racp_by_questions.proofs.raised.greater.Given as goal

abbrev pub invariant-loop-k : goal.invariant-loop-k
invariant-loop-k l = IsRaising l.fn.floors l.others l.units.items l.k
