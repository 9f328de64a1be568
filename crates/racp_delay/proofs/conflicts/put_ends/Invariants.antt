use Rattle.racp_delay.proofs.Events.{AreWrittenTo, ends_of}
use Rattle.racp_delay.proofs.conflicts.put_ends.Given as goal

abbrev pub invariant-loop-i : goal.invariant-loop-i
invariant-loop-i l = AreWrittenTo (ends_of l.net l.starts) l.i l.events
