use Rattle.racp_test_ground.proofs.records.are_covered.Given as goal

abbrev pub ghosts-covers_rows : goal.ghosts-covers_rows
ghosts-covers_rows a = record { network = a.net.now }

abbrev pub ghosts-covers_record : goal.ghosts-covers_record
ghosts-covers_record a = record { network = a.net.now }
