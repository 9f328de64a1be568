use Rattle.racp_curve.proofs.by_desks.curve_by.Given as goal

abbrev pub ghosts-curve_named-K-OfNetwork : goal.ghosts-curve_named-K-OfNetwork
ghosts-curve_named-K-OfNetwork g a = record { network = a.ground.now.net.now }

abbrev pub ghosts-curve_named-M-OfTurns : goal.ghosts-curve_named-M-OfTurns
ghosts-curve_named-M-OfTurns g a = record { turns = a.crew.now.turns; quiet = g.P.Stop.is_quiet a.crew.now.stop.now }
