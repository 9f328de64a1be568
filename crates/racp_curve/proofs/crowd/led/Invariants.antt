use Rattle.racp_curve.proofs.crowd.led.Given as goal

abbrev pub ghosts-curve_named : goal.ghosts-curve_named
ghosts-curve_named g a = record { network = a.ground.now.net.now }
