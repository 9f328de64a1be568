use Rattle.racp_batch.proofs.Opened.{any_open}
use Rattle.racp_batch.proofs.planning.Planning.outcome_of.Goals as goal

pub returns-clause-outcome : goal.returns-clause-outcome
returns-clause-outcome g c = any_open _ c.args.net.now c.args.order.now c.in_ok-outcome.outcome c.in_ok-outcome.ensures.outcome
