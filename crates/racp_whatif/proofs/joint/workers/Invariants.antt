use Rattle.racp_whatif.specs.Within.{AreWorkers}
use Rattle.racp_whatif.proofs.joint.workers.Given as goal

abbrev pub invariant-loop-i : goal.invariant-loop-i
invariant-loop-i l = AreWorkers l.net l.window l.k l.times.from l.times.until l.i l.jobs.items
