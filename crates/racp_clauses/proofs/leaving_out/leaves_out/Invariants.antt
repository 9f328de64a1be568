use Rattle.racp_clauses.proofs.Leaving.{AreOutBelow}
use Rattle.racp_clauses.proofs.leaving_out.leaves_out.Given as goal

abbrev pub invariant-loop-literal : goal.invariant-loop-literal
invariant-loop-literal l = AreOutBelow l.net l.x l.row l.clause l.literal-index
