use Rattle.racp_test_ground.proofs.records.finding.is_found.Given as goal

abbrev pub ghosts-is_shown : goal.ghosts-is_shown
ghosts-is_shown g a = record { network = a.net.now }
