use Rattle.racp_test_clauses.proofs.beside.received_by.Given as goal

abbrev pub ghosts-received_of : goal.ghosts-received_of
ghosts-received_of g a = record { problem = record { network = a.task.net.now; terms = a.task.order.now; root = a.task.root.now } }
