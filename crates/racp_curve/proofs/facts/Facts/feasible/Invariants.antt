use Rattle.racp_curve.proofs.facts.Facts.feasible.Given as goal

abbrev pub ghosts-feasible : goal.ghosts-feasible
ghosts-feasible g a = record { problem = record { network = a.part.net.now; terms = a.part.order.now; root = a.part.root.now } }
