use Rattle.racp_test_planner.proofs.desk.probes.holds_of_six.Given as goal

abbrev pub ghosts-holds : goal.ghosts-holds
ghosts-holds g a = record { network = a.net.now }
