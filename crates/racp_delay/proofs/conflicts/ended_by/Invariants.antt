use Rattle.std.proofs.Common.{ℕ, ◌-◌, ◌<◌, ◌≤◌, length}
use Rattle.racp_delay.specs.Sweeps.{time_at, AreFirstLoads}
use Rattle.racp_delay.proofs.conflicts.ended_by.Given as goal

abbrev pub invariant-loop-count : goal.invariant-loop-count
invariant-loop-count l = record {
  within : l.count ≤ length l.by_end;
  sums : AreFirstLoads l.net l.by_end l.count l.loads;
  past : (q : ℕ) → l.fn.ended.count ≤ q → q < l.count → time_at l.by_end q ≤ l.time;
}

abbrev pub decreases-loop-count : goal.decreases-loop-count
decreases-loop-count l = length l.by_end - l.count
