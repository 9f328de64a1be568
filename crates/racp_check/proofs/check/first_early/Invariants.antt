use Rattle.std.proofs.Common.{ℕ, ◌<◌, ◌≤◌, slice_index}
use Rattle.racp_check.proofs.check.first_early.Given as goal

abbrev pub invariant-loop-i : goal.invariant-loop-i
invariant-loop-i l = (q : ℕ) → q < l.i → slice_index l.order-inside.release.items q ≤ slice_index l.starts q
