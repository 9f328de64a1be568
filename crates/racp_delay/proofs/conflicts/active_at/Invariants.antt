use Rattle.racp_delay.proofs.ActiveSets.{AreActiveBelow}
use Rattle.racp_delay.proofs.conflicts.active_at.Given as goal

abbrev pub invariant-loop-i : goal.invariant-loop-i
invariant-loop-i l = AreActiveBelow l.net l.starts l.time l.i l.active
