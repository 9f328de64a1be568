use Rattle.racp_derivations.proofs.CostLeaving.{AreNotSo}
use Rattle.racp_derivations.proofs.bounding.show_least.Given as goal

abbrev pub invariant-loop-clause : goal.invariant-loop-clause
invariant-loop-clause g l = AreNotSo l.net l.least l.clauses l.clause-index
