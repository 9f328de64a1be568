-- Needs: units of a resource that some jobs use together at some time, however all jobs start in time.
use Rattle.std.specs.Prelude.{◌≡◌, ◌⊎◌, ℕ, ◌<◌, ◌≤◌, List, Option, Some, None, All, AllPairs, IfSome, length, slice_index, sum_by}
use Rattle.racp_model.specs.Project.{Project, IsNumber, place}
use Rattle.racp_model.specs.Schedule.{KeepsPrecedence, IsInTime, use_of}
use Rattle.racp_model.specs.Terms.{Terms, release_of, due_of}
use Rattle.racp_model.specs.Plan.{IsTooLong, IsTooLateAt}
use Rattle.racp_model.specs.Window.{Bounds, IsRootWindow}
use Rattle.racp_whatif.specs.Fitting.{IsSeenToFit}
use Rattle.racp_whatif.specs.declared.need.Need.{Need}

-- what the jobs of these numbers use together of resource k at time t
abbrev pub usage_by : Project → List ℕ → ℕ → ℕ → List ℕ → ℕ
usage_by p starts k t jobs = sum_by (λ job. use_of p starts k t (place job)) jobs

-- these jobs use so many units of a resource at some time from one until another
abbrev pub UseTogether : Project → List ℕ → Need → Type 0
UseTogether p starts need =
    (t : ℕ) × (need.from ≤ t) × (t < need.until) × (need.units ≤ usage_by p starts need.place t need.jobs.items)

-- a job uses units of it at some time from one until another
abbrev pub UsesSome : Project → List ℕ → Need → ℕ → Type 0
UsesSome p starts need job =
    (t : ℕ) × (need.from ≤ t) × (t < need.until) × (0 < use_of p starts need.place t (place job))

-- jobs of the project, each once, that do so whenever the jobs keep precedence and are in time
pub record IsNeed (p : Project) (terms : Terms) (need : Need) : Type 0 where
  pub resource : need.place < p.resources
  pub named : All (IsNumber (length p.jobs)) need.jobs.items
  pub rising : AllPairs ◌<◌ need.jobs.items
  pub used : (starts : List ℕ) → length starts ≡ length p.jobs → KeepsPrecedence p starts →
      IsInTime p (release_of terms) (due_of terms) starts → UseTogether p starts need
  pub each : (starts : List ℕ) → length starts ≡ length p.jobs → KeepsPrecedence p starts →
      IsInTime p (release_of terms) (due_of terms) starts → All (UsesSome p starts need) need.jobs.items

-- there may not be as many units
abbrev pub IsAboveCeiling : Terms → Need → Type 0
IsAboveCeiling terms need =
    (ceilings : List ℕ) × (terms.ceilings ≡ Some ceilings) × (slice_index ceilings need.place < need.units)

-- no starts are in time, or what is looked at in the root window fits
abbrev pub HasNoNeed : Project → Terms → List ℕ → Type 0
HasNoNeed p terms ceilings =
    ((critical : ℕ) × IsTooLong p terms critical) ⊎ (((i : ℕ) × IsTooLateAt p terms i) ⊎
    ((window : Bounds) × IsRootWindow p (release_of terms) (due_of terms) window × IsSeenToFit p window ceilings))

-- a need above a ceiling; or none if there are no ceilings or none is seen
abbrev pub IsNeedAnswer : Project → Terms → Option Need → Type 0
IsNeedAnswer p terms (Some need) = IsNeed p terms need × IsAboveCeiling terms need
IsNeedAnswer p terms None = IfSome terms.ceilings (HasNoNeed p terms)
