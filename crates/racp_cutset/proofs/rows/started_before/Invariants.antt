use Rattle.racp_cutset.proofs.Fronts.{AreStartedBelow}
use Rattle.racp_cutset.proofs.rows.started_before.Given as goal

abbrev pub invariant-loop-i : goal.invariant-loop-i
invariant-loop-i l = AreStartedBelow l.early l.time l.i l.started
