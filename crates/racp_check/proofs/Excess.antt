-- The first time at which a resource is used above its capacity: it is the start of some job.
use Rattle.std.proofs.Common.{ℕ, ◌<◌, ◌≤◌, inl, inr, List, length, slice_index, Option, Some, None, arith}
use Rattle.racp_model.specs.Project.{Project}
use Rattle.racp_model.specs.Schedule.{usage}
use Rattle.racp_model.proofs.lemmas.Latest.{usage-at_start}
use Rattle.racp_check.specs.PlanTests.{IsOverAtAnswer, IsOverAnswer}

-- at the time t the capacities are kept
abbrev pub IsKeptAt : Project → List ℕ → List ℕ → ℕ → Type 0
IsKeptAt p capacities starts t = (q : ℕ) → q < p.resources → usage p starts q t ≤ slice_index capacities q

-- the first excess at the starts of the jobs before place n, or none
abbrev pub IsFirstSoFar : Project → List ℕ → List ℕ → ℕ → Option (ℕ × ℕ) → Type 0
IsFirstSoFar p capacities starts n None = (j : ℕ) → j < n → IsKeptAt p capacities starts (slice_index starts j)
IsFirstSoFar p capacities starts n (Some over) =
    IsOverAtAnswer p capacities starts over.1 (Some over.0) ×
    ((j : ℕ) → j < n → slice_index starts j < over.1 → IsKeptAt p capacities starts (slice_index starts j))

-- where the capacities are kept at each start up to a time, they are at that time
pub kept_between : (p : Project) (capacities starts : List ℕ) (t : ℕ) → ((j : ℕ) → j < length p.jobs → slice_index starts j ≤ t → IsKeptAt p capacities starts (slice_index starts j)) → IsKeptAt p capacities starts t
kept_between p capacities starts t h q l = elim (usage-at_start p starts q t) [
  | inl none ↦ omega (arith, none)
  | inr some ↦ omega (arith, h some.0 some.1.0 some.1.1 q l, some.1.2)
]

-- after all starts
pub so_far-all : (p : Project) (capacities starts : List ℕ) (first : Option (ℕ × ℕ)) → IsFirstSoFar p capacities starts (length p.jobs) first → IsOverAnswer p capacities starts first
so_far-all p capacities starts None h = λ k t l. kept_between p capacities starts t (λ j m o. h j m) k l
so_far-all p capacities starts (Some over) h = (
  h.0.0,
  h.0.1,
  record {
    resource = h.0.2;
    over = h.0.3;
    first_time = λ q s l less. kept_between p capacities starts s (λ j m o. h.1 j m (omega (arith, o))) q l;
    first = h.0.4;
  },
)
