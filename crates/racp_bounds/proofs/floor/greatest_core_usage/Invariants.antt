use Rattle.std.proofs.Common.{ℕ, ◌<◌, ◌≤◌, slice_index}
use Rattle.racp_model.specs.Plan.{IsLeast}
use Rattle.racp_model.specs.CoreTimes.{core_usage}
use Rattle.racp_bounds.proofs.floor.greatest_core_usage.Given as goal

abbrev pub invariant-loop-time : goal.invariant-loop-time
invariant-loop-time l = IsLeast ◌<◌ (λ units. (j : ℕ) → j < l.time-index → core_usage l.net l.root l.k (slice_index l.time-items j) ≤ units) l.most
