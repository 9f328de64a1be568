use Rattle.racp_clauses.specs.Inferences.{IsOfClause}
use Rattle.racp_clauses.proofs.unit.unit.Given as goal

abbrev pub invariant-loop-literal : goal.invariant-loop-literal
invariant-loop-literal l = IsOfClause l.bounds l.clause l.literal-index l.inference
