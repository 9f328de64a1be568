use Rattle.std.proofs.Common.{ℕ, ◌+◌, ◌<◌, ◌≤◌, slice_index, min}
use Rattle.racp_model.specs.Project.{duration}
use Rattle.racp_check.proofs.check.first_late.Given as goal

abbrev pub invariant-loop-i : goal.invariant-loop-i
invariant-loop-i l = (q : ℕ) → q < l.i → slice_index l.starts q + duration l.net q ≤ min (slice_index l.order-inside.due.items q) l.order-inside.deadline
