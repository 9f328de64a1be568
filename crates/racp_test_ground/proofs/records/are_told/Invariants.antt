use Rattle.racp_test_ground.proofs.records.are_told.Given as goal

abbrev pub ghosts-moves : goal.ghosts-moves
ghosts-moves a = record { network = a.net.now }

abbrev pub ghosts-covers_rows : goal.ghosts-covers_rows
ghosts-covers_rows a = record { network = a.net.now }
