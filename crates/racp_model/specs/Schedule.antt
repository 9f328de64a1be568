-- Schedules: which start vectors keep precedence, are in time, and fit capacities (Möhring 1984).
use Rattle.std.specs.Prelude.{◌≡◌, ℕ, zero, suc, ◌+◌, ◌*◌, ◌<◌, ◌≤◌, ◌&&◌, Bool, List, length, slice_index, nat_le, nat_lt, if◌then◌else◌}
use Rattle.racp_model.specs.Project.{Project, duration, request, Precedes}

-- the sum f 0 + f 1 + .. + f (n - 1)
unfoldable pub sum_below : ℕ → (ℕ → ℕ) → ℕ
sum_below zero f = 0
sum_below (suc n) f = sum_below n f + f n

-- job i is active at time t: it has started, and has not ended. A job of duration 0 is never active
pub record IsActive (p : Project) (starts : List ℕ) (t i : ℕ) : Type 0 where
  pub started : slice_index starts i ≤ t
  pub runs : t < slice_index starts i + duration p i

-- the test of that
abbrev pub is_active : Project → List ℕ → ℕ → ℕ → Bool
is_active p starts t i = nat_le (slice_index starts i) t && nat_lt t (slice_index starts i + duration p i)

-- what job i uses of resource k at time t: its request while it is active
unfoldable pub use_of : Project → List ℕ → ℕ → ℕ → ℕ → ℕ
use_of p starts k t i = if is_active p starts t i then request p i k else 0

-- what all jobs together use of resource k at time t
abbrev pub usage : Project → List ℕ → ℕ → ℕ → ℕ
usage p starts k t = sum_below (length p.jobs) (use_of p starts k t)

-- no job starts before each that precedes it has ended
abbrev pub KeepsPrecedence : Project → List ℕ → Type 0
KeepsPrecedence p starts = (i j : ℕ) → Precedes p i j → slice_index starts i + duration p i ≤ slice_index starts j

-- each job ends by its due time
abbrev pub EndsBy : Project → (ℕ → ℕ) → List ℕ → Type 0
EndsBy p due starts = (i : ℕ) → i < length p.jobs → slice_index starts i + duration p i ≤ due i

-- each job starts at or after its release time and ends by its due time
pub record IsInTime (p : Project) (release due : ℕ → ℕ) (starts : List ℕ) : Type 0 where
  pub released : (i : ℕ) → i < length p.jobs → release i ≤ slice_index starts i
  pub ends : EndsBy p due starts

-- at each whole time the jobs use at most the capacity of each resource
abbrev pub IsWithinCapacities : Project → List ℕ → List ℕ → Type 0
IsWithinCapacities p capacities starts =
    (k t : ℕ) → k < p.resources → usage p starts k t ≤ slice_index capacities k

-- the starts keep precedence and the capacities
pub record Fits (p : Project) (capacities starts : List ℕ) : Type 0 where
  pub precedence : KeepsPrecedence p starts
  pub within : IsWithinCapacities p capacities starts

-- one start for each job, in time, that keep precedence and the capacities
pub record FitsInTime (p : Project) (release due : ℕ → ℕ) (capacities starts : List ℕ) : Type 0 where
  pub places : length starts ≡ length p.jobs
  pub in_time : IsInTime p release due starts
  pub fits : Fits p capacities starts

-- some starts in time fit the capacities
abbrev pub Admits : Project → (ℕ → ℕ) → (ℕ → ℕ) → List ℕ → Type 0
Admits p release due capacities = (starts : List ℕ) × FitsInTime p release due capacities starts

-- the roof of resource k: the sum of all requests of it. No schedule ever uses more
abbrev pub roof : Project → ℕ → ℕ
roof p k = sum_below (length p.jobs) (λ i. request p i k)

-- the energy of resource k: the sum, over all jobs, of duration times request
abbrev pub energy : Project → ℕ → ℕ
energy p k = sum_below (length p.jobs) (λ i. duration p i * request p i k)

-- the peak of resource k: the most units of it that the jobs use at a time
pub record IsPeak (p : Project) (starts : List ℕ) (k peak : ℕ) : Type 0 where
  pub most : (t : ℕ) → usage p starts k t ≤ peak
  pub reached : (t : ℕ) × (usage p starts k t ≡ peak)

-- the peak of each resource
pub record ArePeaks (p : Project) (starts peaks : List ℕ) : Type 0 where
  pub places : length peaks ≡ p.resources
  pub each : (k : ℕ) → k < p.resources → IsPeak p starts k (slice_index peaks k)
