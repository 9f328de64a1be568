use Rattle.racp_delay.proofs.Loading.{IsLoading}
use Rattle.racp_delay.proofs.delaying.load_of.Given as goal

abbrev pub invariant-loop-job : goal.invariant-loop-job
invariant-loop-job l = IsLoading l.net l.jobs l.list.items l.job-iterator l.loads
