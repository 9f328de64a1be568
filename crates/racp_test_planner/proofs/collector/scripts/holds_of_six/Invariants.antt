use Rattle.racp_test_planner.proofs.collector.scripts.holds_of_six.Given as goal

abbrev pub ghosts-holds : goal.ghosts-holds
ghosts-holds a = record { network = a.net.now }
