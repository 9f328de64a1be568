use Rattle.std.proofs.Common.{◌≡◌, ◌*◌, ◌≤◌}
use Rattle.racp_model.specs.Schedule.{sum_below, use_of}
use Rattle.racp_model.proofs.usage.usage_at.Given as goal

abbrev pub invariant-loop-i : goal.invariant-loop-i
invariant-loop-i l = record {
  sum : l.sum ≡ sum_below l.i (use_of l.net l.starts l.k l.time);
  small : l.sum ≤ l.i * 10000;
}
