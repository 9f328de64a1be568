use Rattle.std.proofs.Common.{◌≡◌, ℕ, ◌+◌, ◌<◌, ◌≤◌, length, slice_index}
use Rattle.racp_model.specs.Project.{duration}
use Rattle.racp_cutset.proofs.rows.add_durations.Given as goal

abbrev pub invariant-loop-i : goal.invariant-loop-i
invariant-loop-i l = record {
  places : length l.times ≡ length l.fn.times;
  added : (j : ℕ) → j < l.i → slice_index l.times j ≡ slice_index l.fn.times j + duration l.net j;
  others : (j : ℕ) → l.i ≤ j → slice_index l.times j ≡ slice_index l.fn.times j;
}
