use Rattle.racp_test_planner.proofs.stages.holds.Given as goal

abbrev pub ghosts-sharpens_in : goal.ghosts-sharpens_in
ghosts-sharpens_in a = record { network = a.net.now }
