use Rattle.racp_by_questions.specs.Searched.{IsWidest}
use Rattle.racp_by_questions.proofs.span.widest.Given as goal

abbrev pub invariant-loop-k : goal.invariant-loop-k
invariant-loop-k l = IsWidest l.k l.low-2 l.high-2 l.widest
