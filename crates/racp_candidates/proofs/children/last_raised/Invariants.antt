use Rattle.std.proofs.Common.{◌≡◌, ◌⊎◌, ◌<◌, ℕ, length, slice_index}
use Rattle.racp_candidates.proofs.children.last_raised.Given as goal

abbrev pub invariant-loop-place : goal.invariant-loop-place
invariant-loop-place l = record {
  bound : (l.place ≡ 0) ⊎ (l.place < length l.floors);
  at_floors : (k : ℕ) → l.place < k → k < length l.floors → slice_index l.units k ≡ slice_index l.floors k;
}

abbrev pub decreases-loop-place : goal.decreases-loop-place
decreases-loop-place l = l.place
