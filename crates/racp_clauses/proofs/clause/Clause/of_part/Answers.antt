use Rattle.racp_clauses.proofs.Rooting.{holds-of_parts}
use Rattle.racp_clauses.proofs.clause.Clause.of_part.Goals as goal

pub invariant_of-result : goal.invariant_of-result
invariant_of-result g c = holds-of_parts g.P.OfProblem.problem g.N.OfProblem.problem c.self.inside.literals.items c.requires c.self.invariant
