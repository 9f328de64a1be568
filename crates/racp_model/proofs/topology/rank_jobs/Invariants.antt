use Rattle.std.proofs.Common.{◌≡◌, ◌*◌, ◌-◌, ℕ, length}
use Rattle.racp_model.specs.Ranks.{RisesAlong, AreBelow, IsLowUnder, total}
use Rattle.racp_model.proofs.topology.rank_jobs.Given as goal

abbrev pub invariant-sweeps : goal.invariant-sweeps
invariant-sweeps l = record {
  places : length l.rank ≡ length l.fn.rank;
  below : AreBelow (length l.rank) l.rank;
  low : (ranking : ℕ → ℕ) → RisesAlong l.arcs ranking → IsLowUnder ranking l.rank;
}

abbrev pub decreases-sweeps : goal.decreases-sweeps
decreases-sweeps l = length l.rank * length l.rank - total l.rank
