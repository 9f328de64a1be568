use Rattle.std.proofs.Common.{ℕ, ◌+◌, ◌<◌, ◌≤◌, slice_index}
use Rattle.racp_model.specs.Project.{duration}
use Rattle.racp_model.specs.Terms.{due_of}
use Rattle.racp_plan.proofs.fitting.end_by_due.Given as goal

abbrev pub invariant-loop-i : goal.invariant-loop-i
invariant-loop-i l = (q : ℕ) → q < l.i → slice_index l.starts q + duration l.net q ≤ due_of l.order q
