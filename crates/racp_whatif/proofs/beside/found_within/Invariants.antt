use Rattle.racp_lexfix.specs.Variants.{problem_of}
use Rattle.racp_whatif.proofs.beside.found_within.Given as goal

abbrev pub ghosts-planned : goal.ghosts-planned
ghosts-planned g a = record { problem = problem_of a.whole }
