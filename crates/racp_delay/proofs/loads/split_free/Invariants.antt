use Rattle.racp_delay.proofs.Parting.{IsParting}
use Rattle.racp_delay.proofs.loads.split_free.Given as goal

abbrev pub invariant-loop-job : goal.invariant-loop-job
invariant-loop-job l = IsParting l.net l.fn.active l.free l.list.items l.job-iterator l.kept l.left
