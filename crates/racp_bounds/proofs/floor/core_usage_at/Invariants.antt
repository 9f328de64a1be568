use Rattle.std.proofs.Common.{◌≡◌, ◌*◌, ◌≤◌}
use Rattle.racp_model.specs.Schedule.{sum_below}
use Rattle.racp_model.specs.CoreTimes.{core_use}
use Rattle.racp_bounds.proofs.floor.core_usage_at.Given as goal

abbrev pub invariant-loop-i : goal.invariant-loop-i
invariant-loop-i l = record {
  sum : l.sum ≡ sum_below l.i (core_use l.net l.root l.k l.time);
  small : l.sum ≤ l.i * 10000;
}
