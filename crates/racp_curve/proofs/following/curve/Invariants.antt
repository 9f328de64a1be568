use Rattle.std.specs.Prelude.{[]}
use Rattle.racp_lexfix.specs.Variants.{problem_of}
use Rattle.racp_curve.proofs.following.curve.Given as goal

abbrev pub ghosts-curve_learned : goal.ghosts-curve_learned
ghosts-curve_learned g a = record { problem = problem_of a.whole }

-- nothing is learned, so these root bounds are never used
abbrev pub ghosts-curve_anew : goal.ghosts-curve_anew
ghosts-curve_anew g a = record { problem = record { network = a.ground.now.net.now; terms = a.ground.now.order.now; root = record { lower = []; upper = [] } } }
