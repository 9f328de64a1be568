use Rattle.racp_delay.proofs.ActiveSets.{AreActiveBelow}
use Rattle.racp_delay.proofs.Scanning.{AreLoadsBelow, IsNextBelow}
use Rattle.racp_delay.proofs.scans.running_at.Given as goal

abbrev pub invariant-loop-i : goal.invariant-loop-i
invariant-loop-i l = record {
  set : AreActiveBelow l.net l.starts l.time l.i l.active;
  sums : AreLoadsBelow l.net l.starts l.time l.i l.loads;
  next : IsNextBelow l.starts l.time l.i l.next;
}
