use Rattle.std.proofs.Common.{ℕ, ◌<◌, length, slice_index}
use Rattle.racp_whatif.specs.Fitting.{AllWorkFits}
use Rattle.racp_whatif.proofs.joint.joint_above.Given as goal

abbrev pub invariant-loop-k : goal.invariant-loop-k
invariant-loop-k l = (k : ℕ) → k < l.k → AllWorkFits l.net l.window k (slice_index l.ceilings k) (length l.net.jobs)
