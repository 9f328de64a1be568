use Rattle.racp_test_ground.proofs.searches.finds_its_records.Given as goal

abbrev pub ghosts-is_shorter_again : goal.ghosts-is_shorter_again
ghosts-is_shorter_again a = record { network = a.net.now }
