-- Time windows of the jobs, and questions: do some starts in a window fit the capacities?
use Rattle.std.specs.Prelude.{◌≡◌, ℕ, ◌<◌, ◌≤◌, List, length, slice_index, Contains}
use Rattle.racp_model.specs.Project.{Project}
use Rattle.racp_model.specs.Schedule.{EndsBy, Fits}
use Rattle.racp_model.specs.Path.{IsEarly, IsLate}

-- a window: a lower and an upper bound on the start of each job
pub record Bounds : Type 0 where
  pub lower : List ℕ
  pub upper : List ℕ

-- one start for each job, each within its bounds
pub record LiesIn (p : Project) (window : Bounds) (starts : List ℕ) : Type 0 where
  pub places : length starts ≡ length p.jobs
  pub above : (i : ℕ) → i < length p.jobs → slice_index window.lower i ≤ slice_index starts i
  pub below : (i : ℕ) → i < length p.jobs → slice_index starts i ≤ slice_index window.upper i

-- starts in the window that keep precedence and the capacities
pub record Answers (p : Project) (capacities : List ℕ) (window : Bounds) (starts : List ℕ) : Type 0 where
  pub lies : LiesIn p window starts
  pub fits : Fits p capacities starts

-- the question of capacities and a window is a yes: some starts answer it
abbrev pub IsYes : Project → List ℕ → Bounds → Type 0
IsYes p capacities window = (starts : List ℕ) × Answers p capacities window starts

-- the question is infeasible
abbrev pub IsNo : Project → List ℕ → Bounds → Type 0
IsNo p capacities window = (starts : List ℕ) → Answers p capacities window starts → ⊥

-- the root window: from the early starts at or above the release times to the late starts by the due times, if no
-- early finish exceeds its due time
pub record IsRootWindow (p : Project) (release due : ℕ → ℕ) (window : Bounds) : Type 0 where
  pub early : IsEarly p release window.lower
  pub late : IsLate p due window.upper
  pub ends : EndsBy p due window.lower

-- a window is inside another: its lower bounds are no lower, and its upper bounds no higher
pub record IsInside (p : Project) (outer inner : Bounds) : Type 0 where
  pub lower : (i : ℕ) → i < length p.jobs → slice_index outer.lower i ≤ slice_index inner.lower i
  pub upper : (i : ℕ) → i < length p.jobs → slice_index inner.upper i ≤ slice_index outer.upper i

-- a list of windows covers one: each answer in it lies in a window of the list
abbrev pub WindowsCover : Project → List ℕ → Bounds → List Bounds → Type 0
WindowsCover p capacities window rest =
    (starts : List ℕ) → Answers p capacities window starts → (part : Bounds) × Contains rest part × LiesIn p part starts
