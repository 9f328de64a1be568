use Rattle.std.proofs.Common.{ℕ, ◌<◌, ◌≤◌, slice_index}
use Rattle.racp_model.specs.Schedule.{usage}
use Rattle.racp_check.proofs.check.first_over_at.Given as goal

abbrev pub invariant-loop-k : goal.invariant-loop-k
invariant-loop-k l = (q : ℕ) → q < l.k → usage l.net l.starts q l.time ≤ slice_index l.capacities q
