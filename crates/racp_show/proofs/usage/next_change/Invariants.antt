use Rattle.std.proofs.Common.{ℕ, ◌+◌, ◌<◌, ◌≤◌, slice_index}
use Rattle.racp_model.specs.Project.{duration}
use Rattle.racp_show.proofs.usage.next_change.Given as goal

abbrev pub invariant-loop-i : goal.invariant-loop-i
invariant-loop-i l = record {
  after : l.time < l.next;
  within : l.next ≤ l.deadline;
  begins : (q : ℕ) → q < l.i → l.time < slice_index l.starts q → l.next ≤ slice_index l.starts q;
  stops : (q : ℕ) → q < l.i → l.time < slice_index l.starts q + duration l.net q → l.next ≤ slice_index l.starts q + duration l.net q;
}
