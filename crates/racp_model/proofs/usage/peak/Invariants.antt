use Rattle.std.proofs.Common.{◌≡◌, ℕ, ◌<◌, ◌≤◌, slice_index}
use Rattle.racp_model.specs.Schedule.{usage}
use Rattle.racp_model.proofs.usage.peak.Given as goal

abbrev pub invariant-loop-i : goal.invariant-loop-i
invariant-loop-i l = record {
  most : (q : ℕ) → q < l.i → usage l.net l.starts l.k (slice_index l.starts q) ≤ l.most;
  reached : (t : ℕ) × (usage l.net l.starts l.k t ≡ l.most);
}
