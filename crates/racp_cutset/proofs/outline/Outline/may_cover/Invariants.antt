use Rattle.std.proofs.Common.{◌↔◌, ◌<◌, ◌≤◌, ℕ, IsTrue, slice_index}
use Rattle.racp_cutset.proofs.outline.Outline.may_cover.Given as goal

abbrev pub invariant-loop-k : goal.invariant-loop-k
invariant-loop-k l = IsTrue l.may ↔ ((l.self.time ≤ l.other.time) × ((k : ℕ) → k < l.k → slice_index l.other.units k ≤ slice_index l.self.units k))
