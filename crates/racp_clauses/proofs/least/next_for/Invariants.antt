use Rattle.racp_clauses.proofs.Stepping.{AreNoneOut}
use Rattle.racp_clauses.proofs.least.next_for.Given as goal

abbrev pub invariant-loop-at : goal.invariant-loop-at
invariant-loop-at g l = AreNoneOut l.net l.x l.row l.clauses l.from l.at
