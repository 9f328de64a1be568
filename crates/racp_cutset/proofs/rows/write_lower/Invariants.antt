use Rattle.std.proofs.Common.{◌≡◌, ℕ, ◌<◌, ◌≤◌, length, slice_index}
use Rattle.racp_cutset.proofs.rows.write_lower.Given as goal

abbrev pub invariant-loop-i : goal.invariant-loop-i
invariant-loop-i l = record {
  places : length l.ends ≡ length l.fn.ends;
  before : (j : ℕ) → j < length l.early → slice_index l.early j < l.time → slice_index l.ends j ≡ slice_index l.fn.ends j;
  after : (j : ℕ) → j < l.i → l.time ≤ slice_index l.early j → slice_index l.ends j ≡ slice_index l.lower j;
}
