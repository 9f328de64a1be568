use Rattle.std.proofs.Common.{◌≡◌, ◌-◌}
use Rattle.racp_model.specs.Schedule.{usage}
use Rattle.racp_show.proofs.Adding.{AreStepsTo}
use Rattle.racp_show.proofs.usage.usage_steps.Given as goal

abbrev pub invariant-loop-time : goal.invariant-loop-time
invariant-loop-time l = record {
  steps : AreStepsTo l.net l.starts l.k l.time l.steps.items;
  units : l.units ≡ usage l.net l.starts l.k l.time;
}

abbrev pub decreases-loop-time : goal.decreases-loop-time
decreases-loop-time l = l.deadline - l.time
