use Rattle.std.proofs.Common.{◌≡◌, ℕ, ◌≤◌, length}
use Rattle.racp_links.specs.Phases.{is_in_by, is_in}
use Rattle.racp_links.proofs.outline.is_in.Given as goal

abbrev pub invariant-loop-at : goal.invariant-loop-at
invariant-loop-at l = record {
  known : l.at ≤ length l.parents;
  steps : (steps : ℕ) × (l.at ≤ steps) × (is_in_by l.parents l.whole steps l.at ≡ is_in l.parents l.whole l.fn.task);
}

abbrev pub decreases-loop-at : goal.decreases-loop-at
decreases-loop-at l = l.at
