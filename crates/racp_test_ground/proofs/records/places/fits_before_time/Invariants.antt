use Rattle.std.proofs.Common.{ℕ, ◌<◌, ◌≤◌, slice_index}
use Rattle.racp_test_ground.proofs.records.places.fits_before_time.Given as goal

abbrev pub invariant-loop-i : goal.invariant-loop-i
invariant-loop-i g l = (j : ℕ) → j < l.i → slice_index l.node.early j < l.node.time → slice_index l.node.early j ≤ slice_index l.node.window.upper j
