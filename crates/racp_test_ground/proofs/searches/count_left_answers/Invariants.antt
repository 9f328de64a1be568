use Rattle.racp_test_ground.proofs.searches.count_left_answers.Given as goal

abbrev pub ghosts-count_left_of : goal.ghosts-count_left_of
ghosts-count_left_of a = record { network = a.net.now }
