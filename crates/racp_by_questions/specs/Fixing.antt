-- Contracts of private functions: the starts of the jobs are fixed one after another.
use Rattle.std.specs.Prelude.{◌≡◌, ◌⊎◌, ℕ, ◌<◌, ◌≤◌, List, slice_index}
use Rattle.racp_model.specs.Project.{Project}
use Rattle.racp_model.specs.Schedule.{KeepsPrecedence}
use Rattle.racp_model.specs.Path.{IsEarly}
use Rattle.racp_model.specs.Plan.{IsLeast}
use Rattle.racp_model.specs.Window.{Bounds, LiesIn, Answers, IsYes}
use Rattle.racp_model.specs.Formed.{HasBounds}
use Rattle.racp_candidates.specs.Questions.{window_at}

-- some starts in the window keep precedence
abbrev pub HasSchedule : Project → Bounds → Type 0
HasSchedule p window = (starts : List ℕ) × LiesIn p window starts × KeepsPrecedence p starts

-- a window with its early starts as lower bounds
pub record IsSettledEarly (p : Project) (old new : Bounds) : Type 0 where
  pub early : IsEarly p (slice_index old.lower) new.lower
  pub upper : new.upper ≡ old.upper

-- a start of the job at place j within its bounds, at which some starts in the window answer
pub record IsStartOf (p : Project) (capacities : List ℕ) (window : Bounds) (j start : ℕ) : Type 0 where
  pub above : slice_index window.lower j ≤ start
  pub below : start ≤ slice_index window.upper j
  pub yes : IsYes p capacities (window_at window j start)

-- the least such start
abbrev pub IsLeastStart : Project → List ℕ → Bounds → ℕ → ℕ → Type 0
IsLeastStart p capacities window j = IsLeast ◌<◌ (IsStartOf p capacities window j)

-- starts that are greater at some place before n, and the same at the places before it
abbrev pub IsAfterFront : ℕ → List ℕ → List ℕ → Type 0
IsAfterFront n front starts =
    (k : ℕ) × (k < n) × ((q : ℕ) → q < k → slice_index front q ≡ slice_index starts q) ×
    (slice_index front k < slice_index starts k)

-- the jobs before place n are fixed in a window of the root window: what answers lies in it, or comes later
pub record IsFixedBefore (p : Project) (capacities : List ℕ) (root : Bounds) (n : ℕ) (window : Bounds) : Type 0 where
  pub bounds : HasBounds p window
  pub yes : IsYes p capacities window
  pub inside : (starts : List ℕ) → LiesIn p window starts → LiesIn p root starts
  pub fixed : (i : ℕ) → i < n → slice_index window.lower i ≡ slice_index window.upper i
  pub others : (starts : List ℕ) → Answers p capacities root starts → LiesIn p window starts ⊎
      IsAfterFront n window.lower starts
