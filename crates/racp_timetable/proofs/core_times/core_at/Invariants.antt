use Rattle.racp_timetable.proofs.Cores.{IsCoreBelow}
use Rattle.racp_timetable.proofs.core_times.core_at.Given as goal

abbrev pub invariant-loop-i : goal.invariant-loop-i
invariant-loop-i l = IsCoreBelow l.net l.window l.time l.i l.until l.loads
