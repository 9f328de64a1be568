-- Contracts of private functions: the place of a pair among pairs in rising order.
use Rattle.std.specs.Prelude.{◌≡◌, ℕ, ◌<◌, ◌≤◌, List, length, slice_index_or}
use Rattle.racp_model.specs.Project.{IsArcBefore}

-- the pairs before the lower place stand before this one, and those from the upper place on do not
pub record IsPlaceIn (arcs : List (ℕ × ℕ)) (wanted : ℕ × ℕ) (low high : ℕ) : Type 0 where
  pub order : low ≤ high
  pub within : high ≤ length arcs
  pub below : (k : ℕ) → k < low → IsArcBefore (slice_index_or arcs k wanted) wanted
  pub above : (k : ℕ) → high ≤ k → k < length arcs → IsArcBefore (slice_index_or arcs k wanted) wanted → ⊥

-- this pair stands at a place
pub record HasPairAt (arcs : List (ℕ × ℕ)) (at : ℕ) (wanted : ℕ × ℕ) : Type 0 where
  pub place : at < length arcs
  pub first : (slice_index_or arcs at wanted).0 ≡ wanted.0
  pub second : (slice_index_or arcs at wanted).1 ≡ wanted.1
