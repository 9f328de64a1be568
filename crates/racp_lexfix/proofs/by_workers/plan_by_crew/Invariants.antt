use Rattle.racp_lexfix.proofs.by_workers.plan_by_crew.Given as goal

abbrev pub ghosts-plan_by-N-OfNetwork : goal.ghosts-plan_by-N-OfNetwork
ghosts-plan_by-N-OfNetwork g a = record { network = a.task.now.net.now }

abbrev pub ghosts-plan_by-M-OfTurns : goal.ghosts-plan_by-M-OfTurns
ghosts-plan_by-M-OfTurns g a = record { turns = a.crew.now.turns; quiet = g.P.Stop.is_quiet a.crew.now.stop.now }
