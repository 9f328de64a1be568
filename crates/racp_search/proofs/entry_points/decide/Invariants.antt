use Rattle.racp_search.proofs.entry_points.decide.Given as goal

abbrev pub ghosts-decide_named : goal.ghosts-decide_named
ghosts-decide_named a = record { network = a.net.now }
