use Rattle.std.proofs.Common.{ℕ, ◌<◌, ◌≤◌}
use Rattle.racp_model.specs.Project.{duration, request}
use Rattle.racp_model.specs.Plan.{IsLeast}
use Rattle.racp_bounds.proofs.floor.largest_request.Given as goal

abbrev pub invariant-loop-i : goal.invariant-loop-i
invariant-loop-i l = IsLeast ◌<◌ (λ units. (i : ℕ) → i < l.i → 0 < duration l.net i → request l.net i l.k ≤ units) l.most
