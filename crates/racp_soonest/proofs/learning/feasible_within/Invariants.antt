use Rattle.racp_lexfix.specs.Variants.{problem_of}
use Rattle.racp_soonest.proofs.learning.feasible_within.Given as goal

abbrev pub ghosts-feasible : goal.ghosts-feasible
ghosts-feasible g a = record { problem = problem_of a.part }
