use Rattle.racp_batch.proofs.planning.Planning.outcome.Given as goal

abbrev pub ghosts-outcome_of : goal.ghosts-outcome_of
ghosts-outcome_of g a = record { network = a.net.now; terms = a.order.now }
