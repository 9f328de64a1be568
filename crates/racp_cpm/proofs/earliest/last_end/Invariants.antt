use Rattle.std.proofs.Common.{◌≡◌, ℕ, ◌+◌, ◌<◌, ◌≤◌, length, slice_index}
use Rattle.racp_model.specs.Project.{duration}
use Rattle.racp_cpm.proofs.earliest.last_end.Given as goal

abbrev pub invariant-loop-i : goal.invariant-loop-i
invariant-loop-i l = record {
  some : (j : ℕ) × (j < length l.net.jobs) × (slice_index l.starts j + duration l.net j ≡ l.last);
  most : (j : ℕ) → j < l.i → slice_index l.starts j + duration l.net j ≤ l.last;
}
