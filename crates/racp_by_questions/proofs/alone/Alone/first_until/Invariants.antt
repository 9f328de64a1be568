use Rattle.std.proofs.Common.{◌≡◌, length}
use Rattle.racp_core.specs.Machine.{all_questions}
use Rattle.racp_by_questions.specs.Working.{IsIdle}
use Rattle.racp_by_questions.proofs.alone.Alone.first_until.Given as goal

abbrev pub invariant-questions : goal.invariant-questions
invariant-questions g l = record {
  idle : IsIdle l.core;
  answered : l.self.answered ≡ l.fn.self.answered;
  same : all_questions l.core ≡ g.S.Series.questions l.fn.series;
}

abbrev pub decreases-questions : goal.decreases-questions
decreases-questions g l = length l.core.to_come
