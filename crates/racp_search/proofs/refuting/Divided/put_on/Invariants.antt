use Rattle.racp_delay.specs.Alternatives.{job_lists}
use Rattle.racp_search.proofs.Dividing.{IsPutting}
use Rattle.racp_search.proofs.refuting.Divided.put_on.Given as goal

abbrev pub invariant-loop-left : goal.invariant-loop-left
invariant-loop-left l = IsPutting l.self (job_lists l.lists) l.fn.windows.items l.left l.windows.items

abbrev pub decreases-loop-left : goal.decreases-loop-left
decreases-loop-left l = l.left
