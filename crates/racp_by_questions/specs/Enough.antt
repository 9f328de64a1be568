-- Capacities within roofs that are enough for a window.
use Rattle.std.specs.Prelude.{◌≡◌, ℕ, ◌<◌, ◌≤◌, max, List, length, slice_index}
use Rattle.racp_model.specs.Project.{Project}
use Rattle.racp_model.specs.Terms.{Terms, cost}
use Rattle.racp_model.specs.Window.{Bounds, IsYes}

-- one vector is at most another, resource by resource
abbrev pub IsAtMost : Project → List ℕ → List ℕ → Type 0
IsAtMost p low high = (k : ℕ) → k < p.resources → slice_index low k ≤ slice_index high k

-- capacities within the roofs, with which some starts in the window fit
pub record IsEnoughWithin (p : Project) (window : Bounds) (roofs vector : List ℕ) : Type 0 where
  pub places : length vector ≡ p.resources
  pub within : IsAtMost p vector roofs
  pub yes : IsYes p vector window

-- floors of such capacities: there is one for each resource, and all such capacities are at or above them
pub record AreFloorsOf (p : Project) (window : Bounds) (floors roofs : List ℕ) : Type 0 where
  pub places : length floors ≡ p.resources
  pub below : (vector : List ℕ) → IsEnoughWithin p window roofs vector → IsAtMost p floors vector

-- of each resource the greater number of two vectors
pub record AreGreater (one other both : List ℕ) : Type 0 where
  pub places : length both ≡ length one
  pub each : (k : ℕ) → k < length one → slice_index both k ≡ max (slice_index one k) (slice_index other k)

-- such capacities cost at least so much
abbrev pub IsLeastCost : Project → Terms → Bounds → (roofs : List ℕ) → ℕ → Type 0
IsLeastCost p terms window roofs least =
    (vector : List ℕ) → IsEnoughWithin p window roofs vector → least ≤ cost terms vector
