-- The precedence relation in topological order.
use Rattle.std.specs.Prelude.{◌≢◌, ℕ, ◌<◌, ◌≤◌, List, length, slice_index_or, Contains}
use Rattle.racp_model.specs.Project.{Project, Precedes}

-- the pairs of places of a project in an order in which every pair into a job comes before every pair out of it
pub record IsTopological (p : Project) (pairs : List (ℕ × ℕ)) : Type 0 where
  pub named : (k : ℕ) → k < length pairs → ((slice_index_or pairs k (0, 0)).0 < length p.jobs) ×
      ((slice_index_or pairs k (0, 0)).1 < length p.jobs)
  pub sound : (k : ℕ) → k < length pairs → Precedes p (slice_index_or pairs k (0, 0)).0
      (slice_index_or pairs k (0, 0)).1
  pub complete : (i j : ℕ) → Precedes p i j → Contains pairs (i, j)
  pub forward : (k q : ℕ) → k ≤ q → q < length pairs → (slice_index_or pairs k (0, 0)).0 ≢
      (slice_index_or pairs q (0, 0)).1
