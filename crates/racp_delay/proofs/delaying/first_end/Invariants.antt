use Rattle.racp_delay.proofs.Ending.{IsSeeking}
use Rattle.racp_delay.proofs.delaying.first_end.Given as goal

abbrev pub invariant-loop-job : goal.invariant-loop-job
invariant-loop-job l = IsSeeking l.net l.starts l.gone l.fn.active l.job-iterator l.first
