use Rattle.racp_lexfix.proofs.searches.by_searches.Given as goal

abbrev pub ghosts-optimum_beside : goal.ghosts-optimum_beside
ghosts-optimum_beside g a = record { problem = record { network = a.task.net.now; terms = a.task.order.now; root = a.task.root.now } }
