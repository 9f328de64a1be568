use Rattle.std.proofs.Common.{◌≤◌}
use Rattle.racp_model.specs.Plan.{IsEnough}
use Rattle.racp_curve.specs.Curves.{order_by}
use Rattle.racp_curve.proofs.ending.shorten.Given as goal

abbrev pub invariant-ends : goal.invariant-ends
invariant-ends g l = record {
  network : g.A.Asker.about l.asker l.ground.net.now;
  sooner : l.end ≤ l.fn.end;
  enough : IsEnough l.ground.net.now (order_by l.end l.ground.order.now) l.capacities;
}

abbrev pub decreases-ends : goal.decreases-ends
decreases-ends g l = l.end
