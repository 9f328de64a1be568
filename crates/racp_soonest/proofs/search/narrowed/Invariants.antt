use Rattle.std.specs.Prelude.{[]}
use Rattle.racp_lexfix.specs.Variants.{problem_of}
use Rattle.racp_soonest.proofs.search.narrowed.Given as goal

abbrev pub ghosts-narrowed_learned : goal.ghosts-narrowed_learned
ghosts-narrowed_learned g a = record { problem = problem_of a.whole }

-- nothing is learned, so these root bounds are never used
abbrev pub ghosts-narrowed_anew : goal.ghosts-narrowed_anew
ghosts-narrowed_anew g a = record { problem = record { network = a.task.now.net.now; terms = a.task.now.order.now; root = record { lower = []; upper = [] } } }
