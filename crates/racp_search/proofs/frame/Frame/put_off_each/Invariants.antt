use Rattle.racp_search.specs.DepthFirst.{child_windows}
use Rattle.racp_search.proofs.Resting.{IsPuttingOff}
use Rattle.racp_search.proofs.frame.Frame.put_off_each.Given as goal

abbrev pub invariant-loop-job : goal.invariant-loop-job
invariant-loop-job g l = IsPuttingOff g.N.OfNetwork.network l.self-inside.node l.self-inside.active l.yielded l.job-iterator (child_windows l.rest.items)
