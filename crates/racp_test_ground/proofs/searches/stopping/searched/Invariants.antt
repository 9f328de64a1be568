use Rattle.racp_test_ground.proofs.searches.stopping.searched.Given as goal

abbrev pub ghosts-searched_named : goal.ghosts-searched_named
ghosts-searched_named a = record { network = a.net.now }
