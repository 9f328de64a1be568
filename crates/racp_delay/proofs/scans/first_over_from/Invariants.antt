use Rattle.std.proofs.Common.{◌-◌, ◌≤◌}
use Rattle.racp_delay.proofs.Scanning.{AreFineBefore}
use Rattle.racp_delay.proofs.scans.first_over_from.Given as goal

abbrev pub invariant-loop-running : goal.invariant-loop-running
invariant-loop-running l = record {
  fine : AreFineBefore l.net l.capacities l.starts l.time;
  small : l.time ≤ 4294967295;
}

abbrev pub decreases-loop-running : goal.decreases-loop-running
decreases-loop-running l = 4294967295 - l.time
