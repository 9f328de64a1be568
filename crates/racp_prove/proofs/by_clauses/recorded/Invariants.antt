use Rattle.racp_prove.proofs.by_clauses.recorded.Given as goal

abbrev pub ghosts-optimum_recorded : goal.ghosts-optimum_recorded
ghosts-optimum_recorded g a = record { problem = record { network = a.task.net.now; terms = a.task.order.now; root = a.task.root.now } }
