use Rattle.racp_curve.proofs.alone.curve_alone.Given as goal

abbrev pub ghosts-curve_named : goal.ghosts-curve_named
ghosts-curve_named a = record { network = a.ground.now.net.now }
