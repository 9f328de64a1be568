-- Contracts of private functions: those that sweep over the starts and ends of jobs to find the first conflict.
use Rattle.std.specs.Prelude.{◌≡◌, ℕ, ◌+◌, ◌<◌, ◌≤◌, List, length, map, take, slice_index, slice_index_or, Option, Some, None}
use Rattle.std.specs.List.{sum_by, range_with_len}
use Rattle.std.specs.List.Sorted.{IsPermutation}
use Rattle.racp_model.specs.Project.{Project, request, number, place}
use Rattle.racp_model.specs.Schedule.{IsWithinCapacities}
use Rattle.racp_delay.specs.Branching.{IsFirstExcess}

-- the jobs, each as its time and its number, by place
abbrev pub events_of : Project → (ℕ → ℕ) → List (ℕ × ℕ)
events_of p time = map (λ i. (time i, number i)) (range_with_len 0 (length p.jobs))

-- the time of the event at place q
abbrev pub time_at : List (ℕ × ℕ) → ℕ → ℕ
time_at events q = (slice_index_or events q (0, 0)).0

-- the jobs, each as its time and its number, by rising times
pub record AreEvents (p : Project) (time : ℕ → ℕ) (events : List (ℕ × ℕ)) : Type 0 where
  pub same : IsPermutation (events_of p time) events
  pub rises : (a b : ℕ) → a ≤ b → b < length events → time_at events a ≤ time_at events b

-- what the jobs of some events request together of the resource at place k
unfoldable pub event_load : Project → ℕ → List (ℕ × ℕ) → ℕ
event_load p k events = sum_by (λ event. request p (place event.1) k) events

-- loads of the first events
abbrev pub AreFirstLoads : Project → List (ℕ × ℕ) → ℕ → List ℕ → Type 0
AreFirstLoads p events count loads = (k : ℕ) → k < p.resources →
    slice_index loads k ≡ event_load p k (take count events)

-- the first events were taken, up to some time
pub record AreTaken (p : Project) (events : List (ℕ × ℕ)) (from : ℕ) (time count : ℕ) (loads : List ℕ) : Type 0 where
  pub within : count ≤ length events
  pub sums : AreFirstLoads p events count loads
  pub past : (q : ℕ) → from ≤ q → q < count → time_at events q ≤ time
  pub stop : count < length events → time < time_at events count

-- some started jobs load more than the capacities and the ended jobs
abbrev pub Exceeds : Project → List ℕ → List ℕ → List ℕ → Type 0
Exceeds p capacities started ended = (k : ℕ) × (k < p.resources) ×
    (slice_index capacities k + slice_index ended k < slice_index started k)

-- what looking for the first conflict answers
abbrev pub IsExcessAnswer : Project → List ℕ → List ℕ → Option ℕ → Type 0
IsExcessAnswer p capacities starts (Some t) = IsFirstExcess p capacities starts t
IsExcessAnswer p capacities starts None = IsWithinCapacities p capacities starts
