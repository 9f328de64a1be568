-- Contracts of private functions: needs of starts in a window, and the work at some times.
use Rattle.std.specs.Prelude.{◌≡◌, ℕ, ◌-◌, ◌*◌, ◌<◌, List, Option, Some, None, All, AllPairs, length, slice_index, sum_by}
use Rattle.racp_model.specs.Project.{Project, IsNumber, place}
use Rattle.racp_model.specs.Schedule.{sum_below}
use Rattle.racp_model.specs.Window.{Bounds, LiesIn}
use Rattle.racp_clauses.specs.Rules.{least_work}
use Rattle.racp_whatif.specs.Fitting.{IsSeenToFit}
use Rattle.racp_whatif.specs.Needs.{UseTogether, UsesSome}
use Rattle.racp_whatif.specs.declared.need.Need.{Need}
use Rattle.racp_whatif.specs.declared.work.Work.{Work}

-- jobs of the project, each once, that use the units together in all starts in a window
pub record IsNeedIn (p : Project) (window : Bounds) (need : Need) : Type 0 where
  pub resource : need.place < p.resources
  pub named : All (IsNumber (length p.jobs)) need.jobs.items
  pub rising : AllPairs ◌<◌ need.jobs.items
  pub used : (starts : List ℕ) → LiesIn p window starts → UseTogether p starts need
  pub each : (starts : List ℕ) → LiesIn p window starts → All (UsesSome p starts need) need.jobs.items

-- and that is more than a ceiling
pub record IsAbove (p : Project) (window : Bounds) (ceilings : List ℕ) (need : Need) : Type 0 where
  pub is : IsNeedIn p window need
  pub above : slice_index ceilings need.place < need.units

-- a need above a ceiling, or what is looked at fits
abbrev pub IsFound : Project → Bounds → List ℕ → Option Need → Type 0
IsFound p window ceilings (Some need) = IsAbove p window ceilings need
IsFound p window ceilings None = IsSeenToFit p window ceilings

-- the least work on resource k at some times, which is more than so many units can do meanwhile
pub record IsOver (p : Project) (window : Bounds) (k units : ℕ) (work : Work) : Type 0 where
  pub some : work.times.from < work.times.until
  pub amount : work.amount ≡ sum_below (length p.jobs) (least_work p window k work.times.from work.times.until)
  pub more : units * (work.times.until - work.times.from) < work.amount

-- of the first n jobs those, each once, that have a part in this work
pub record AreWorkers (p : Project) (window : Bounds) (k from until n : ℕ) (jobs : List ℕ) : Type 0 where
  pub named : All (IsNumber n) jobs
  pub rising : AllPairs ◌<◌ jobs
  pub parts : All (λ job. 0 < least_work p window k from until (place job)) jobs
  pub amount : sum_by (λ job. least_work p window k from until (place job)) jobs ≡
      sum_below n (least_work p window k from until)
