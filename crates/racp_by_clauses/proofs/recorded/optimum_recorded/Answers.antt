use Rattle.racp_by_clauses.proofs.Parts.{part_of_itself}
use Rattle.racp_by_clauses.proofs.recorded.optimum_recorded.Goals as goal

pub from_first_stint-found-requires-clause-are_of : goal.from_first_stint-found-requires-clause-are_of
from_first_stint-found-requires-clause-are_of g c = record {
  of_whole = c.requires.is_of;
  of_part = c.requires.is_of;
  is_part = part_of_itself g.N.OfProblem.problem;
}
