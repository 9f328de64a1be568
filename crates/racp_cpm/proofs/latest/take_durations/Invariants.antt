use Rattle.std.proofs.Common.{◌≡◌, ℕ, ◌+◌, ◌<◌, ◌≤◌, slice_index}
use Rattle.racp_model.specs.Project.{duration}
use Rattle.racp_cpm.proofs.latest.take_durations.Given as goal

abbrev pub invariant-loop-i : goal.invariant-loop-i
invariant-loop-i l = record {
  done : (q : ℕ) → q < l.i → slice_index l.starts q + duration l.net q ≡ slice_index l.fn.starts q;
  rest : (q : ℕ) → l.i ≤ q → slice_index l.starts q ≡ slice_index l.fn.starts q;
}
