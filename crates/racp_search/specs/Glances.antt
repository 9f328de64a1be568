-- Contracts of private functions: what is learnt from the early starts of one window.
use Rattle.std.specs.Prelude.{ℕ, ◌<◌, ◌≤◌, List, length, slice_index, Option, Some, None}
use Rattle.racp_model.specs.Project.{Project}
use Rattle.racp_model.specs.Path.{IsEarly}
use Rattle.racp_model.specs.Window.{Bounds, Answers, IsNo}
use Rattle.racp_delay.specs.Branching.{IsConflict}
use Rattle.racp_model.specs.Limits.{most_start}
use Rattle.racp_delay.specs.declared.conflicts.Clash.{Clash}
use Rattle.racp_search.specs.DepthFirst.{SearchFrame, IsFrameOf}
use Rattle.racp_search.specs.declared.glance.Glance.{Glance}
use Rattle.racp_search.specs.declared.glance.Glance.TheVariants.{Refuted, Found, Conflict}

-- the early starts of a window, none above its upper bound, have their first conflict here
pub record HasConflict (p : Project) (capacities : List ℕ) (window : Bounds) (starts : List ℕ)
    (conflict : Clash) : Type 0 where
  pub early : IsEarly p (slice_index window.lower) starts
  pub below : (i : ℕ) → i < length p.jobs → slice_index starts i ≤ slice_index window.upper i
  pub small : (i : ℕ) → i < length p.jobs → slice_index starts i ≤ most_start
  pub first : IsConflict p capacities starts conflict.time conflict.active

-- what they say of the window
abbrev pub IsGlance : Project → List ℕ → Bounds → Glance → Type 0
IsGlance p capacities window Refuted = IsNo p capacities window
IsGlance p capacities window (Found starts) = Answers p capacities window starts
IsGlance p capacities window (Conflict starts conflict) = HasConflict p capacities window starts conflict

-- a frame of the window, or that nothing in it answers
abbrev pub IsExpanded : Project → List ℕ → Bounds → Option SearchFrame → Type 0
IsExpanded p capacities window (Some frame) = IsFrameOf p capacities window frame
IsExpanded p capacities window None = IsNo p capacities window
