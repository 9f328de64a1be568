use Rattle.racp_whatif.specs.declared.outcome.Finding.{Finding}
use Rattle.racp_whatif.proofs.Naming.{named_finding}
use Rattle.racp_whatif.proofs.finding.finding.Goals as goal

pub returns-clause-right : goal.returns-clause-right
returns-clause-right g c =
    let found : Finding = record { change = c.args.change; outcome = c.in_ok-outcome.outcome } in
    named_finding c.args.task.now.net.now g.N.OfOrder.network c.args.task.now.order.now g.N.OfOrder.terms c.in_ok-order.order c.args.crew.now.turns g.M.OfTurns.turns (g.P.Stop.is_quiet c.args.crew.now.stop.now) g.M.OfTurns.quiet found c.requires.named c.requires.named_terms c.requires.named_turns c.requires.named_quiet c.in_ok-order.ensures.changed c.in_ok-outcome.ensures.outcome
