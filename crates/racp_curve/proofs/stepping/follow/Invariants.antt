use Rattle.racp_curve.specs.Following.{IsNext}
use Rattle.racp_curve.proofs.stepping.follow.Given as goal

abbrev pub invariant-plans : goal.invariant-plans
invariant-plans g l = record {
  network : g.A.Asker.about l.asker l.ground.net.now;
  next : IsNext l.ground.net.now l.ground.order.now l.plan l.steps.items;
}

abbrev pub decreases-plans : goal.decreases-plans
decreases-plans g l = l.plan.deadline
