-- Contracts of private functions: the steps of a search by depth.
use Rattle.std.specs.Prelude.{◌≡◌, ◌≢◌, ℕ, Contains, ◌<◌, ◌≤◌, List, [], ◌∷◌, ◌++◌, Option, Some, None}
use Rattle.racp_model.specs.Project.{Project}
use Rattle.racp_model.specs.Window.{Bounds, Answers}
use Rattle.racp_cutset.specs.Covering.{SearchNode}
use Rattle.racp_cutset.specs.Kept.{Kept, IsKeptOrDropped}
use Rattle.racp_search.specs.Truth.{IsRestOf}
use Rattle.racp_search.specs.declared.halt.Next.{Next}
use Rattle.racp_search.specs.declared.halt.Step.{Step}
use Rattle.racp_search.specs.declared.halt.Step.TheVariants.{Further, Found, Nothing}
use Rattle.racp_search.specs.DepthFirst.{SearchFrame, open_parts, IsHigher, IsRestOfFrame, IsSearching, IsSearchingNext, IsTaken, IsUsedUp, weights}
use Rattle.racp_search.specs.DepthFirst.Part.{all_of}

-- the next window below the node of a frame, or that none is left
abbrev pub IsTakenAnswer : Project → List ℕ → SearchFrame → SearchFrame → Option Bounds → Type 0
IsTakenAnswer p capacities old new (Some next) = IsTaken p capacities old new next
IsTakenAnswer p capacities old new None = IsUsedUp p capacities old new

-- a window is not open any more: its child windows are on the stack, or nothing in it answers
pub record IsClosed (p : Project) (capacities : List ℕ) (whole : Bounds) (old : List SearchFrame) (next : Bounds)
    (new : List SearchFrame) : Type 0 where
  pub state : IsSearching p capacities whole new []
  pub lighter : weights p (open_parts new) < weights p (open_parts old ++ all_of next ∷ [])

-- what entering a window answers: starts that answer the question, or that the window is closed
abbrev pub IsEntered : Project → List ℕ → Bounds → List SearchFrame → Bounds → List SearchFrame → Option (List ℕ) →
    Type 0
IsEntered p capacities whole old next new (Some starts) = Answers p capacities whole starts
IsEntered p capacities whole old next new None = IsClosed p capacities whole old next new

-- a window that is searched next, and the stack without it
pub record IsNext (p : Project) (capacities : List ℕ) (whole : Bounds) (old : List SearchFrame) (next : Next)
    (new : List SearchFrame) : Type 0 where
  pub state : IsSearchingNext p capacities whole new next.window next.from
  pub higher : IsHigher p whole next.window
  pub lighter : weights p (open_parts new ++ all_of next.window ∷ []) ≤ weights p (open_parts old)

-- the next window, or that none is left
abbrev pub IsNextAnswer : Project → List ℕ → Bounds → List SearchFrame → List SearchFrame → Option Next → Type 0
IsNextAnswer p capacities whole old new (Some next) = IsNext p capacities whole old next new
IsNextAnswer p capacities whole old new None = IsSearching p capacities whole [] []

-- the window of the first frame, or, where there is none, the one that is searched next
abbrev pub IsFrontWindow : List SearchFrame → Bounds → Bounds → Type 0
IsFrontWindow [] next window = window ≡ next
IsFrontWindow (frame ∷ frames) next window = window ≡ frame.node.window

-- what is left of a whole window where a window is to be searched next: as high as that one, or higher than the whole
pub record IsLeft (p : Project) (capacities : List ℕ) (whole next : Bounds) (rest : List Bounds) : Type 0 where
  pub left : IsRestOf p capacities whole rest
  pub higher : IsHigher p whole next → (part : Bounds) → Contains rest part → IsHigher p whole part
  pub some : rest ≢ []

-- a window that is searched next after another
pub record IsFurther (p : Project) (capacities : List ℕ) (whole : Bounds) (old : List SearchFrame) (before : Bounds)
    (new : List SearchFrame) (next : Next) : Type 0 where
  pub state : IsSearchingNext p capacities whole new next.window next.from
  pub higher : IsHigher p whole next.window
  pub lighter : weights p (open_parts new ++ all_of next.window ∷ []) < weights p (open_parts old ++ all_of before ∷ [])

-- what one step of a search comes to, from a window
abbrev pub IsStep : Project → List ℕ → Bounds → List SearchFrame → Bounds → List SearchFrame → Step → Type 0
IsStep p capacities whole old before new (Further next) = IsFurther p capacities whole old before new next
IsStep p capacities whole old before new (Found starts) = Answers p capacities whole starts
IsStep p capacities whole old before new Nothing = IsSearching p capacities whole [] []

-- there is a first frame, and it is of these capacities
abbrev pub HasFirst : List ℕ → List SearchFrame → Type 0
HasFirst capacities [] = ⊥
HasFirst capacities (frame ∷ frames) = frame.node.capacities ≡ capacities

-- the first frame was taken out, and windows that are left of it were put behind others
pub record IsFirstLeft (p : Project) (capacities : List ℕ) (old new : List SearchFrame)
    (old_rest new_rest : List Bounds) : Type 0 where
  pub frame : SearchFrame
  pub more : List Bounds
  pub taken : old ≡ frame ∷ new
  pub gathered : new_rest ≡ old_rest ++ more
  pub left : IsRestOfFrame p capacities frame more

-- some record was kept, or none
pub record IsKeptSomeOrDropped (first : ℕ) (old new : Kept) : Type 0 where
  pub node : SearchNode
  pub step : IsKeptOrDropped first old node new
