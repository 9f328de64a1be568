-- Conflicts, and the child windows that put an alternative off (Demeulemeester and Herroelen 1992). Lists of jobs hold
-- job numbers, from 1.
use Rattle.std.specs.Prelude.{◌≡◌, ◌↔◌, ℕ, ◌+◌, ◌<◌, ◌≤◌, List, [], length, slice_index, Contains, max, Option, Some, None}
use Rattle.std.specs.List.Sorted.{IsStrictlyIncreasing}
use Rattle.racp_model.specs.Project.{Project, duration, number, place, IsNumber}
use Rattle.racp_model.specs.Schedule.{IsActive, usage, IsWithinCapacities}
use Rattle.racp_model.specs.Window.{Bounds}
use Rattle.racp_delay.specs.declared.conflicts.Clash.{Clash}

-- the jobs that are active at a time, in order
pub record IsActiveSet (p : Project) (starts : List ℕ) (t : ℕ) (active : List ℕ) : Type 0 where
  pub rises : IsStrictlyIncreasing active
  pub members : (job : ℕ) → Contains active job ↔ (IsNumber (length p.jobs) job × IsActive p starts t (place job))

-- the first time at which the usage of some resource exceeds its capacity
pub record IsFirstExcess (p : Project) (capacities starts : List ℕ) (t : ℕ) : Type 0 where
  pub before : (k s : ℕ) → k < p.resources → s < t → usage p starts k s ≤ slice_index capacities k
  pub exceeds : (k : ℕ) × (k < p.resources) × (slice_index capacities k < usage p starts k t)

-- before a time the usage exceeds no capacity
abbrev pub KeepsBefore : Project → List ℕ → List ℕ → ℕ → Type 0
KeepsBefore p capacities starts t =
    (k s : ℕ) → k < p.resources → s < t → usage p starts k s ≤ slice_index capacities k

-- the first conflict of the starts: that time, and the jobs that are active then
pub record IsConflict (p : Project) (capacities starts : List ℕ) (t : ℕ) (active : List ℕ) : Type 0 where
  pub first : IsFirstExcess p capacities starts t
  pub set : IsActiveSet p starts t active

-- when a job ends
abbrev pub end_of : Project → List ℕ → ℕ → ℕ
end_of p starts job = slice_index starts (place job) + duration p (place job)

-- when the first of some jobs ends
pub record IsFirstEnd (p : Project) (starts jobs : List ℕ) (end : ℕ) : Type 0 where
  pub some : (job : ℕ) × Contains jobs job × (end_of p starts job ≡ end)
  pub first : (job : ℕ) → Contains jobs job → end ≤ end_of p starts job

-- what looking for it answers: the first end, or that there are no jobs
abbrev pub IsFirstEndAnswer : Project → List ℕ → List ℕ → Option ℕ → Type 0
IsFirstEndAnswer p starts jobs (Some end) = IsFirstEnd p starts jobs end
IsFirstEndAnswer p starts jobs None = jobs ≡ []

-- the child window of a window: the lower bounds of the jobs that go are raised to the first end, in the early starts,
-- of the jobs that stay; the other bounds are those of the window
pub record IsChild (p : Project) (early : List ℕ) (window : Bounds) (gone kept : List ℕ) (child : Bounds) : Type 0 where
  pub end : ℕ
  pub first : IsFirstEnd p early kept end
  pub raised : (i : ℕ) → i < length p.jobs → Contains gone (number i) →
      slice_index child.lower i ≡ max (slice_index window.lower i) end
  pub same : (i : ℕ) → i < length p.jobs → (Contains gone (number i) → ⊥) →
      slice_index child.lower i ≡ slice_index window.lower i
  pub upper : child.upper ≡ window.upper

-- what looking for a conflict answers: the first one, or that the usage never exceeds the capacities
abbrev pub IsConflictAnswer : Project → List ℕ → List ℕ → Option Clash → Type 0
IsConflictAnswer p capacities starts (Some conflict) = IsConflict p capacities starts conflict.time conflict.active
IsConflictAnswer p capacities starts None = IsWithinCapacities p capacities starts
