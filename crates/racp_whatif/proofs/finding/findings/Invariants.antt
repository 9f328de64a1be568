use Rattle.racp_whatif.proofs.finding.findings.Given as goal

abbrev pub ghosts-findings_of-N-OfOrder : goal.ghosts-findings_of-N-OfOrder
ghosts-findings_of-N-OfOrder g a = record { network = a.task.now.net.now; terms = a.task.now.order.now }

abbrev pub ghosts-findings_of-M-OfTurns : goal.ghosts-findings_of-M-OfTurns
ghosts-findings_of-M-OfTurns g a = record { turns = a.crew.now.turns; quiet = g.P.Stop.is_quiet a.crew.now.stop.now }
