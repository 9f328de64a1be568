use Rattle.racp_whatif.proofs.variants.variant_outcome.Goals as goal

pub returns-in-Some-clause-outcome : goal.returns-in-Some-clause-outcome
returns-in-Some-clause-outcome g c = c.outcome_of.ensures.outcome (g.P.Stop.is_quiet c.args.crew.now.stop.now) c.args.crew.now.turns
