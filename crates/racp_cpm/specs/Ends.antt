-- What late starts, last ends and the root window answer.
use Rattle.std.specs.Prelude.{◌≡◌, ℕ, ◌+◌, ◌<◌, List, length, slice_index, Option, Some, None}
use Rattle.racp_model.specs.Project.{Project, duration, number}
use Rattle.racp_model.specs.Schedule.{EndsBy}
use Rattle.racp_model.specs.Path.{IsEarly, IsLate, IsTooTight, IsFirstLate}
use Rattle.racp_model.specs.Window.{Bounds, IsRootWindow}

-- the greatest finish of a job
pub record IsLastEnd (p : Project) (starts : List ℕ) (last : ℕ) : Type 0 where
  pub some : (i : ℕ) × (i < length p.jobs) × (slice_index starts i + duration p i ≡ last)
  pub most : EndsBy p (λ _. last) starts

-- the late starts, or none if nothing keeps precedence and the due times
abbrev pub IsLateAnswer : Project → (ℕ → ℕ) → Option (List ℕ) → Type 0
IsLateAnswer p due (Some late) = IsLate p due late
IsLateAnswer p due None = IsTooTight p due

-- the early finish of some job exceeds its due time
abbrev pub HasNoRoot : Project → (ℕ → ℕ) → (ℕ → ℕ) → Type 0
HasNoRoot p release due = (early : List ℕ) × IsEarly p release early × (i : ℕ) × IsFirstLate p due early i

-- the root window, or none if the early finish of some job exceeds its due time
abbrev pub IsRootAnswer : Project → (ℕ → ℕ) → (ℕ → ℕ) → Option Bounds → Type 0
IsRootAnswer p release due (Some window) = IsRootWindow p release due window
IsRootAnswer p release due None = HasNoRoot p release due

-- the number of the first job that ends after its due time, or none if each ends by it
abbrev pub IsFirstLateAnswer : Project → (ℕ → ℕ) → List ℕ → Option ℕ → Type 0
IsFirstLateAnswer p due starts (Some job) = (i : ℕ) × (number i ≡ job) × IsFirstLate p due starts i
IsFirstLateAnswer p due starts None = EndsBy p due starts
