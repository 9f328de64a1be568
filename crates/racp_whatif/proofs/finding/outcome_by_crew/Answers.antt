use Rattle.racp_whatif.proofs.finding.outcome_by_crew.Goals as goal

pub returns-in-Ok-clause-outcome : goal.returns-in-Ok-clause-outcome
returns-in-Ok-clause-outcome g c = c.outcome_of.ensures.outcome (g.P.Stop.is_quiet c.args.crew.now.stop.now) c.args.crew.now.turns
