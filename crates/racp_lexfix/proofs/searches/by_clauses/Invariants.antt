use Rattle.racp_lexfix.proofs.searches.by_clauses.Given as goal

abbrev pub ghosts-optimum_of : goal.ghosts-optimum_of
ghosts-optimum_of g a = record { problem = record { network = a.task.net.now; terms = a.task.order.now; root = a.task.root.now } }
