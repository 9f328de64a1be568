use Rattle.std.proofs.Common.{ℕ, ◌<◌, ◌≤◌, slice_index}
use Rattle.racp_model.specs.Schedule.{usage}
use Rattle.racp_model.proofs.fitting.keeps_capacity.Given as goal

abbrev pub invariant-loop-start : goal.invariant-loop-start
invariant-loop-start l = (q : ℕ) → q < l.start-index → usage l.net l.starts l.k (slice_index l.starts q) ≤ l.capacity
