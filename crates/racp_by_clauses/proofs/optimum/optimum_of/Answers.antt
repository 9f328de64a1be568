use Rattle.racp_by_clauses.proofs.Parts.{part_of_itself}
use Rattle.racp_by_clauses.proofs.optimum.optimum_of.Goals as goal

pub below-optimum-requires-clause-are_of : goal.below-optimum-requires-clause-are_of
below-optimum-requires-clause-are_of g c = record {
  of_whole = c.requires.is_of;
  of_part = c.requires.is_of;
  is_part = part_of_itself g.N.OfProblem.problem;
}
