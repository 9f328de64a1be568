-- Contracts of private functions: what runs at a time in all starts of a window, and for how long.
use Rattle.std.specs.Prelude.{◌≡◌, ℕ, ◌+◌, ◌<◌, ◌≤◌, List, length, slice_index}
use Rattle.racp_model.specs.Project.{Project, duration, request}
use Rattle.racp_model.specs.Window.{Bounds, IsInside}
use Rattle.racp_model.specs.CoreTimes.{IsCoreTime, core_usage}
use Rattle.racp_timetable.specs.declared.core_times.Core.{Core}

-- the loads are the core usages of the window at the time, and each job of which that is a core time runs on until the
-- later one
pub record IsCore (p : Project) (window : Bounds) (core : Core) : Type 0 where
  pub loads : (k : ℕ) → k < p.resources → slice_index core.loads k ≡ core_usage p window k core.time
  pub lasts : (i : ℕ) → i < length p.jobs → IsCoreTime p window core.time i →
      core.until ≤ slice_index window.lower i + duration p i
  pub later : core.time < core.until

-- the same of a window that is inside one of which that is so
pub record IsCoreAround (p : Project) (window : Bounds) (core : Core) : Type 0 where
  pub outer : Bounds
  pub inside : IsInside p outer window
  pub is : IsCore p outer core

-- loads leave room for job i
abbrev pub HasRoom : Project → List ℕ → List ℕ → ℕ → Type 0
HasRoom p capacities loads i =
    (k : ℕ) → k < p.resources → slice_index loads k + request p i k ≤ slice_index capacities k

-- loads are within the capacities
abbrev pub AreWithin : Project → List ℕ → List ℕ → Type 0
AreWithin p capacities loads = (k : ℕ) → k < p.resources → slice_index loads k ≤ slice_index capacities k
