use Rattle.racp_prove.proofs.by_trees.prove_and_keep.Given as goal

abbrev pub ghosts-plan_with_floors-N-OfNetwork : goal.ghosts-plan_with_floors-N-OfNetwork
ghosts-plan_with_floors-N-OfNetwork g a = record { network = a.task.now.net.now }

abbrev pub ghosts-plan_with_floors-M-OfTurns : goal.ghosts-plan_with_floors-M-OfTurns
ghosts-plan_with_floors-M-OfTurns g a = record { turns = 0; quiet = g.P.Stop.is_quiet a.stop.now }
