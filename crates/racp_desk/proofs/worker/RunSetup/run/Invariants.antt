use Rattle.racp_desk.proofs.worker.RunSetup.run.Given as goal

abbrev pub ghosts-run_named-M-Ledger : goal.ghosts-run_named-M-Ledger
ghosts-run_named-M-Ledger g a = record { name = a.blank.name; parts = a.blank.parts }

abbrev pub ghosts-run_named-M-Rules : goal.ghosts-run_named-M-Rules
ghosts-run_named-M-Rules g a = record { turns = a.self.limits.turns; quiet = g.P.Stop.is_quiet a.self.stop.now }

abbrev pub ghosts-run_named-M-RunNames : goal.ghosts-run_named-M-RunNames
ghosts-run_named-M-RunNames g a = record { series = g.S.Series.questions a.series }
