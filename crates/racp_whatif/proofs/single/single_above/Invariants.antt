use Rattle.std.proofs.Common.{ℕ, ◌<◌, length, slice_index}
use Rattle.racp_whatif.specs.Fitting.{RequestsFit}
use Rattle.racp_whatif.proofs.single.single_above.Given as goal

abbrev pub invariant-loop-k : goal.invariant-loop-k
invariant-loop-k l = (k : ℕ) → k < l.k → RequestsFit l.net k (slice_index l.ceilings k) (length l.net.jobs)
