use Rattle.racp_by_questions.specs.Searched.{IsSpan}
use Rattle.racp_by_questions.proofs.ahead.first_question.Given as goal

abbrev pub invariant-loop-halving : goal.invariant-loop-halving
invariant-loop-halving l = IsSpan l.subject l.part
