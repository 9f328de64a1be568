use Rattle.racp_test_clauses.proofs.tasks.try_order.Given as goal

abbrev pub ghosts-tried : goal.ghosts-tried
ghosts-tried a = record { problem = record { network = a.task.net.now; terms = a.task.order.now; root = a.task.root.now } }
