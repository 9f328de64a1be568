use Rattle.racp_clauses.specs.Least.{AreLeast}
use Rattle.racp_clauses.proofs.Showing.{AreShown}
use Rattle.racp_clauses.proofs.Stepping.{IsReady}
use Rattle.racp_clauses.proofs.least.are_least.Given as goal

abbrev pub invariant-loop-t : goal.invariant-loop-t
invariant-loop-t g l = AreLeast g.N.OfProblem.problem l.t l.row × IsReady l.net l.root l.row l.turns l.clauses l.t l.next ×
    AreShown l.net l.root l.row l.clauses l.t l.next
