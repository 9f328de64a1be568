use Rattle.std.specs.Prelude.{[]}
use Rattle.racp_lexfix.specs.Variants.{problem_of}
use Rattle.racp_curve.proofs.crowd.followed.Given as goal

abbrev pub ghosts-curve_ahead-N-OfProblem : goal.ghosts-curve_ahead-N-OfProblem
ghosts-curve_ahead-N-OfProblem g a = record { problem = problem_of a.whole }

abbrev pub ghosts-curve_ahead-M-OfTurns : goal.ghosts-curve_ahead-M-OfTurns
ghosts-curve_ahead-M-OfTurns g a = record { turns = a.crew.now.turns; quiet = g.P.Stop.is_quiet a.crew.now.stop.now }

-- nothing is learned, so these root bounds are never used
abbrev pub ghosts-curve_anew_by : goal.ghosts-curve_anew_by
ghosts-curve_anew_by g a = record { problem = record { network = a.ground.now.net.now; terms = a.ground.now.order.now; root = record { lower = []; upper = [] } } }
