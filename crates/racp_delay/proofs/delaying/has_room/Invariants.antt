use Rattle.std.proofs.Common.{ℕ, ◌+◌, ◌<◌, ◌≤◌, slice_index}
use Rattle.racp_model.specs.Project.{place, request}
use Rattle.racp_delay.proofs.delaying.has_room.Given as goal

abbrev pub invariant-loop-k : goal.invariant-loop-k
invariant-loop-k l = (q : ℕ) → q < l.k → 0 < request l.net (place l.job) q →
    slice_index l.loads q + request l.net (place l.job) q ≤ slice_index l.capacities q
