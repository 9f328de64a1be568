-- What is looked at to see that units of a resource are too few, and fits.
use Rattle.std.specs.Prelude.{ℕ, ◌+◌, ◌-◌, ◌*◌, ◌<◌, ◌≤◌, List, length, slice_index}
use Rattle.racp_model.specs.Project.{Project, duration, request}
use Rattle.racp_model.specs.Schedule.{sum_below}
use Rattle.racp_model.specs.Window.{Bounds}
use Rattle.racp_clauses.specs.Rules.{least_work}

-- each of the first n jobs that runs for some time requests at most so many units of resource k
abbrev pub RequestsFit : Project → ℕ → ℕ → ℕ → Type 0
RequestsFit p k units n = (i : ℕ) → i < n → 0 < duration p i → request p i k ≤ units

-- the least work of all jobs on resource k from a time until another is at most what so many units can do meanwhile
abbrev pub WorkFits : Project → Bounds → ℕ → ℕ → (from until : ℕ) → Type 0
WorkFits p window k units from until =
    sum_below (length p.jobs) (least_work p window k from until) ≤ units * (until - from)

-- it is in the time unit from the late start of job i on, and from its early start until the late finish of each job
pub record WorkFitsFrom (p : Project) (window : Bounds) (k units i : ℕ) : Type 0 where
  pub core : WorkFits p window k units (slice_index window.upper i) (slice_index window.upper i + 1)
  pub spans : (j : ℕ) → j < length p.jobs →
      WorkFits p window k units (slice_index window.lower i) (slice_index window.upper j + duration p j)

-- so for each of the first n jobs
abbrev pub AllWorkFits : Project → Bounds → ℕ → ℕ → ℕ → Type 0
AllWorkFits p window k units n = (i : ℕ) → i < n → WorkFitsFrom p window k units i

-- all of it fits the ceilings of all resources
pub record IsSeenToFit (p : Project) (window : Bounds) (ceilings : List ℕ) : Type 0 where
  pub requests : (k : ℕ) → k < p.resources → RequestsFit p k (slice_index ceilings k) (length p.jobs)
  pub work : (k : ℕ) → k < p.resources → AllWorkFits p window k (slice_index ceilings k) (length p.jobs)
