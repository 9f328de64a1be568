use Rattle.racp_by_questions.proofs.Cutting.{IsCutting}
use Rattle.racp_by_questions.proofs.cut.cut.Given as goal

abbrev pub invariant-loop-k : goal.invariant-loop-k
invariant-loop-k l = IsCutting l.net l.order l.low l.high l.known.best l.k l.most.items l.units.items
