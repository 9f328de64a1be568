use Rattle.racp_delay.proofs.Sweeping.{IsSweeping}
use Rattle.racp_delay.proofs.conflicts.first_exceeding.Given as goal

abbrev pub invariant-loop-time : goal.invariant-loop-time
invariant-loop-time l = IsSweeping l.net l.capacities l.starts l.by_start l.by_end l.time-index l.ended.count l.started l.ended.loads
