-- Floors and roofs: how many units of each resource there have to be at the least, and how many are ever of use.
use Rattle.std.specs.Prelude.{◌≡◌, ℕ, ◌<◌, ◌≤◌, List, length, slice_index}
use Rattle.std.specs.Int.{div_ceil}
use Rattle.racp_model.specs.Project.{Project, duration, request}
use Rattle.racp_model.specs.Schedule.{energy, roof}
use Rattle.racp_model.specs.Plan.{IsLeast}
use Rattle.racp_model.specs.Window.{Bounds}
use Rattle.racp_model.specs.CoreTimes.{core_usage}

-- this many units of resource k are at or above the requests of the jobs that run for some time
abbrev pub IsAtRequests : Project → ℕ → ℕ → Type 0
IsAtRequests p k units = (i : ℕ) → i < length p.jobs → 0 < duration p i → request p i k ≤ units

-- they are at or above the energy over the deadline, rounded up
abbrev pub IsAtEnergy : Project → ℕ → ℕ → ℕ → Type 0
IsAtEnergy p deadline k units = 0 < deadline → div_ceil (energy p k) deadline ≤ units

-- they are at or above the core usage at any time
abbrev pub IsAtCore : Project → Bounds → ℕ → ℕ → Type 0
IsAtCore p root k units = (t : ℕ) → core_usage p root k t ≤ units

-- this many units of resource k are at or above three lower bounds: the largest request of a job that runs for some time; the
-- energy over the deadline, rounded up; and the core usage at any time
pub record IsAtBounds (p : Project) (root : Bounds) (deadline k units : ℕ) : Type 0 where
  pub requests : IsAtRequests p k units
  pub energy : IsAtEnergy p deadline k units
  pub core : IsAtCore p root k units

-- the floor of resource k: the greatest of these lower bounds, so the least number that is at or above each
abbrev pub IsFloor : Project → Bounds → ℕ → ℕ → ℕ → Type 0
IsFloor p root deadline k = IsLeast ◌<◌ (IsAtBounds p root deadline k)

-- the floor of each resource
pub record AreFloors (p : Project) (root : Bounds) (deadline : ℕ) (floors : List ℕ) : Type 0 where
  pub places : length floors ≡ p.resources
  pub each : (k : ℕ) → k < p.resources → IsFloor p root deadline k (slice_index floors k)

-- the roof of each resource
pub record AreRoofs (p : Project) (roofs : List ℕ) : Type 0 where
  pub places : length roofs ≡ p.resources
  pub each : (k : ℕ) → k < p.resources → slice_index roofs k ≡ roof p k
