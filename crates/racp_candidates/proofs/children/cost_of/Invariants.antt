use Rattle.std.proofs.Common.{◌≡◌, ◌-◌, ◌*◌, ◌≤◌, slice_index}
use Rattle.racp_model.specs.Schedule.{sum_below}
use Rattle.racp_candidates.proofs.children.cost_of.Given as goal

abbrev pub invariant-loop-k : goal.invariant-loop-k
invariant-loop-k l = record {
  sum : l.sum ≡ sum_below l.k (λ k. slice_index l.prices k * (slice_index l.units k - slice_index l.owned k));
  small : l.sum ≤ l.k * (1000000 * 4294967296);
}
