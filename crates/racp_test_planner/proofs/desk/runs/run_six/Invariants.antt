use Rattle.racp_test_planner.proofs.desk.runs.run_six.Given as goal

abbrev pub ghosts-run_with : goal.ghosts-run_with
ghosts-run_with g a = record { network = a.net.now }
