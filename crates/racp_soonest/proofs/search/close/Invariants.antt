use Rattle.racp_soonest.specs.Soonest.{IsSpan}
use Rattle.racp_soonest.specs.Steps.{room}
use Rattle.racp_soonest.proofs.search.close.Given as goal

abbrev pub invariant-spans : goal.invariant-spans
invariant-spans g l = IsSpan l.task.net.now l.task.order.now l.span

abbrev pub decreases-spans : goal.decreases-spans
decreases-spans g l = room l.span l.task.order.now.deadline
