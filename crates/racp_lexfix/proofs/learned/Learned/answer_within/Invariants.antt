use Rattle.racp_lexfix.specs.Variants.{problem_of}
use Rattle.racp_lexfix.proofs.learned.Learned.answer_within.Given as goal

abbrev pub ghosts-optimum : goal.ghosts-optimum
ghosts-optimum g a = record { problem = problem_of a.part }
