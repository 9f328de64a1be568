-- Windows that are narrowed without losing an answer.
use Rattle.std.specs.Prelude.{ℕ, ◌<◌, ◌≤◌, List, length, slice_index, Bool, true, false}
use Rattle.racp_model.specs.Project.{Project}
use Rattle.racp_model.specs.Schedule.{KeepsPrecedence}
use Rattle.racp_model.specs.Formed.{HasBounds}
use Rattle.racp_model.specs.Window.{Bounds, LiesIn, Answers, IsNo, IsInside}
use Rattle.racp_timetable.specs.declared.tightening.Tightened.{Tightened}
use Rattle.racp_timetable.specs.declared.tightening.Tightened.TheVariants.{No, Open}

-- starts are at or above the lower bounds that are before a time
abbrev pub IsAboveBefore : Project → Bounds → ℕ → List ℕ → Type 0
IsAboveBefore p window from starts =
    (i : ℕ) → i < length p.jobs → slice_index window.lower i < from → slice_index window.lower i ≤ slice_index starts i

-- a window that is narrowed to another, from a time on: that one has bounds for each job and is inside it, and each
-- answer in the window lies in it. Lower bounds that are still before the time have moved along precedence alone
pub record IsNarrowed (p : Project) (capacities : List ℕ) (from : ℕ) (window narrow : Bounds) : Type 0 where
  pub bounds : HasBounds p narrow
  pub inside : IsInside p window narrow
  pub answers : (starts : List ℕ) → Answers p capacities window starts → LiesIn p narrow starts
  pub early : (starts : List ℕ) → KeepsPrecedence p starts → IsAboveBefore p window from starts →
      IsAboveBefore p narrow from starts

-- what narrowing a window tells: it is narrowed, or nothing in it answers
abbrev pub IsNarrowedOrNo : Project → List ℕ → ℕ → Bounds → Bounds → Bool → Type 0
IsNarrowedOrNo p capacities from window narrow true = IsNarrowed p capacities from window narrow
IsNarrowedOrNo p capacities from window narrow false = IsNo p capacities window

-- what narrowing along precedence tells: that, whatever the capacities, and from any time on
abbrev pub IsNarrowedAlong : Project → Bounds → Bounds → Bool → Type 0
IsNarrowedAlong p window narrow result =
    (capacities : List ℕ) (from : ℕ) → IsNarrowedOrNo p capacities from window narrow result

-- what `tighten` answers: the narrowed window, or that nothing in the window answers
abbrev pub IsTightened : Project → List ℕ → ℕ → Bounds → Tightened → Type 0
IsTightened p capacities from window (Open narrow) = IsNarrowed p capacities from window narrow
IsTightened p capacities from window (No _) = IsNo p capacities window
