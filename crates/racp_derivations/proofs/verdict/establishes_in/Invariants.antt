use Rattle.racp_derivations.proofs.verdict.establishes_in.Given as goal

abbrev pub ghosts-establishes_of : goal.ghosts-establishes_of
ghosts-establishes_of g a = record { problem = record { network = a.given.now.net.now; terms = a.given.now.order.now; root = a.root.now } }
