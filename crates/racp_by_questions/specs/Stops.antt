-- Why a plan is not known, and what is told where a search by questions stops.
use Rattle.std.specs.Prelude.{◌≡◌, ℕ, ◌+◌, ◌<◌, ◌≤◌, if◌then◌else◌, List, length, slice_index, Option, Some, None, is_some, IfSome, ⊤}
use Rattle.racp_model.specs.Project.{Project}
use Rattle.racp_model.specs.Terms.{Terms, release_of, due_of, IsBefore}
use Rattle.racp_model.specs.Plan.{IsLeast, IsEnough}
use Rattle.racp_model.specs.Window.{Bounds, IsRootWindow}
use Rattle.racp_questions.specs.declared.asker.AskStop.{AskStop}
use Rattle.racp_questions.specs.declared.asker.AskStop.TheVariants.{Stopped as AskStopped, Memory as AskMemory, NoThread as AskNoThread}
use Rattle.racp_bounds.specs.Floors.{AreFloors}
use Rattle.racp_bounds.specs.Sharp.{pair_count}
use Rattle.racp_by_questions.specs.declared.stop.PlanStop.{PlanStop}
use Rattle.racp_by_questions.specs.declared.stop.PlanStop.TheVariants.{Stopped, Memory, NoThread}

-- how many series planning asks before it sharpens the floors: one for the ceilings, where there are such
abbrev pub ceiling_series : Terms → ℕ
ceiling_series terms = if is_some terms.ceilings then 1 else 0

-- no capacities that are enough stand before these
pub record IsNotAfterEnough (p : Project) (terms : Terms) (capacities : List ℕ) : Type 0 where
  pub places : length capacities ≡ p.resources
  pub none : (enough : List ℕ) → IsEnough p terms enough → IsBefore terms enough capacities → ⊥

-- capacities at or above the floor of each resource, by the root window
pub record AreAboveFloors (p : Project) (terms : Terms) (capacities : List ℕ) : Type 0 where
  pub root : Bounds
  pub floors : List ℕ
  pub is_root : IsRootWindow p (release_of terms) (due_of terms) root
  pub are_floors : AreFloors p root terms.deadline floors
  pub above : (k : ℕ) → k < p.resources → slice_index floors k ≤ slice_index capacities k

-- capacities that are told where planning stops, by how many series were answered, and by what the asker told. None that are enough
-- stand before them; they are at or above the floors; of each resource that was sharpened there are at least as many units as in some
-- that are enough. Where the vectors of the box were asked they are what the asker told, if it told any; after that they are the plan's
pub record IsStoppedAt (p : Project) (terms : Terms) (answered : ℕ) (told : Option (List ℕ)) (capacities : List ℕ)
    : Type 0 where
  pub none : IsNotAfterEnough p terms capacities
  pub floors : AreAboveFloors p terms capacities
  pub sharpened : (k : ℕ) → k < p.resources → ceiling_series terms + k < answered →
      (enough : List ℕ) × IsEnough p terms enough × (slice_index enough k ≤ slice_index capacities k)
  pub in_box : answered ≡ ceiling_series terms + p.resources + pair_count p.resources →
      IfSome told (λ reached. capacities ≡ reached)
  pub after_box : ceiling_series terms + p.resources + pair_count p.resources < answered →
      IsLeast (IsBefore terms) (IsEnough p terms) capacities

-- why a plan is not known, of an asker that may stop, or want a thread, or neither: where it stops, such capacities are told
abbrev pub IsPlanStop : (List ℕ → Type 0) → (may_stop may_want_thread : Type 0) → PlanStop → Type 0
IsPlanStop IsTold may_stop may_want_thread (Stopped not_before) = may_stop × IsTold not_before
IsPlanStop IsTold may_stop may_want_thread Memory = ⊤
IsPlanStop IsTold may_stop may_want_thread NoThread = may_want_thread

-- why planning ends where an asker gives up, with capacities before which none are enough
abbrev pub given_up : AskStop → List ℕ → PlanStop
given_up (AskStopped reached) not_before = Stopped not_before
given_up AskMemory not_before = Memory
given_up AskNoThread not_before = NoThread

-- the same, with those that were reached, where there are such
abbrev pub stopped_at : AskStop → List ℕ → PlanStop
stopped_at (AskStopped (Some reached)) floors = Stopped reached
stopped_at (AskStopped None) floors = Stopped floors
stopped_at AskMemory floors = Memory
stopped_at AskNoThread floors = NoThread
