use Rattle.std.proofs.Common.{◌≡◌, ℕ, ◌<◌, ◌≤◌, slice_index}
use Rattle.racp_model.specs.Schedule.{usage}
use Rattle.racp_show.proofs.usage.greatest_usage.Given as goal

abbrev pub invariant-loop-i : goal.invariant-loop-i
invariant-loop-i l = record {
  first : usage l.net l.starts l.k l.from ≤ l.most;
  each : (q : ℕ) → q < l.i → l.from < slice_index l.starts q → slice_index l.starts q < l.to → usage l.net l.starts l.k (slice_index l.starts q) ≤ l.most;
  reached : (t : ℕ) × (l.from ≤ t) × (t < l.to) × (usage l.net l.starts l.k t ≡ l.most);
}
