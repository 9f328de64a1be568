use Rattle.std.proofs.Common.{slice_index}
use Rattle.racp_delay.proofs.Events.{AreWrittenTo}
use Rattle.racp_delay.proofs.conflicts.put_starts.Given as goal

abbrev pub invariant-loop-i : goal.invariant-loop-i
invariant-loop-i l = AreWrittenTo (slice_index l.starts) l.i l.events
