use Rattle.racp_derivations.proofs.bound.least_in.Given as goal

abbrev pub ghosts-least_of : goal.ghosts-least_of
ghosts-least_of g a = record { problem = record { network = a.given.now.net.now; terms = a.given.now.order.now; root = a.root.now } }
