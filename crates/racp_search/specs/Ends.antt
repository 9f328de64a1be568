-- Contracts of private functions: how a search by depth ends.
use Rattle.std.specs.Prelude.{◌≡◌, ◌≢◌, ◌↔◌, ℕ, ◌<◌, ◌≤◌, List, [], Bool, true, false, IsTrue, IsFalse, Option, Some, None, Result, Ok, Err, Contains}
use Rattle.std.specs.declared.alloc.AllocError.{AllocError}
use Rattle.racp_model.specs.Project.{Project}
use Rattle.racp_model.specs.Window.{Bounds, Answers}
use Rattle.racp_search.specs.Truth.{SearchPiece, SearchFinding, IsFoundOrLeft}
use Rattle.racp_search.specs.DepthFirst.{SearchFrame, IsHigher, IsSearching, IsSearchingNext}
use Rattle.racp_search.specs.Steps.{IsLeft}
use Rattle.racp_search.specs.declared.halt.Next.{Next}
use Rattle.racp_search.specs.declared.halt.Halt.{Halt}
use Rattle.racp_search.specs.declared.halt.Halt.TheVariants.{Found, Nothing, Left}
use Rattle.racp_search.specs.declared.finding.Rest.TheVariants.{Whole, Windows}
use Rattle.racp_search.specs.declared.ended.Ended.{Ended}

-- whether as many nodes were entered as the quantum allows
abbrev pub IsSpent : Option ℕ → ℕ → Bool → Type 0
IsSpent (Some most) nodes result = IsTrue result ↔ (most ≤ nodes)
IsSpent None nodes result = IsFalse result

-- how a search of a window ended, and after how many nodes
pub record IsEnd (p : Project) (capacities : List ℕ) (window : Bounds) (quantum : Option ℕ) (nodes : ℕ)
    (ended : Ended) : Type 0 where
  pub is_true : IsFoundOrLeft p capacities window ended.found ended.rest.items
  pub searched : IsFalse ended.stopped → 0 < nodes
  pub stopped : IsTrue ended.stopped → (ended.found ≡ None) × (ended.rest.items ≢ [])
  pub spent : IsFalse ended.stopped → ended.rest.items ≢ [] → quantum ≡ Some nodes
  pub all : IsFalse ended.stopped → quantum ≡ None → ended.rest.items ≡ []
  pub higher : 0 < nodes → (part : Bounds) → Contains ended.rest.items part → IsHigher p window part

-- where a search comes to a halt: at starts that answer, where nothing is left, or before a window
abbrev pub IsHaltOf : Project → List ℕ → Bounds → List SearchFrame → Halt → Type 0
IsHaltOf p capacities window stack (Found starts) = Answers p capacities window starts
IsHaltOf p capacities window stack Nothing = IsSearching p capacities window [] []
IsHaltOf p capacities window stack (Left next stopped) = IsSearchingNext p capacities window stack next.window next.from

-- a search comes to a halt before a window only where it is stopped, or as many nodes were entered as the quantum allows
pub record IsHaltBefore (p : Project) (window : Bounds) (quantum : Option ℕ) (nodes : ℕ) (quiet : Bool) (next : Next)
    (stopped : Bool) : Type 0 where
  pub searched : IsFalse stopped → 0 < nodes
  pub spent : IsFalse stopped → quantum ≡ Some nodes
  pub higher : 0 < nodes → IsHigher p window next.window
  pub told : IsTrue quiet → IsFalse stopped

-- after how many nodes it does
abbrev pub IsHaltAfter : Project → Bounds → Option ℕ → ℕ → Bool → Halt → Type 0
IsHaltAfter p window quantum nodes quiet (Found starts) = 0 < nodes
IsHaltAfter p window quantum nodes quiet Nothing = 0 < nodes
IsHaltAfter p window quantum nodes quiet (Left next stopped) = IsHaltBefore p window quantum nodes quiet next stopped

-- both
pub record IsHalt (p : Project) (capacities : List ℕ) (window : Bounds) (quantum : Option ℕ) (nodes : ℕ) (quiet : Bool)
    (stack : List SearchFrame) (halt : Halt) : Type 0 where
  pub place : IsHaltOf p capacities window stack halt
  pub after : IsHaltAfter p window quantum nodes quiet halt

-- how a search ended that came to a halt
abbrev pub IsEndOf : Project → List ℕ → Bounds → Halt → Ended → Type 0
IsEndOf p capacities window (Found starts) ended =
    (ended.found ≡ Some starts) × (ended.rest.items ≡ []) × (ended.stopped ≡ false)
IsEndOf p capacities window Nothing ended =
    (ended.found ≡ None) × (ended.rest.items ≡ []) × (ended.stopped ≡ false)
IsEndOf p capacities window (Left next stopped) ended =
    (ended.found ≡ None) × IsLeft p capacities window next.window ended.rest.items × (ended.stopped ≡ stopped)

-- one that came to none, for want of memory, does not end
abbrev pub IsFinished : Project → List ℕ → Bounds → Result Halt AllocError → Ended → Type 0
IsFinished p capacities window (Ok halt) ended = IsEndOf p capacities window halt ended
IsFinished p capacities window (Err error) ended = ⊥

-- the finding of a search that ended so, after so many nodes
abbrev pub finding_after : SearchPiece → Ended → ℕ → SearchFinding
finding_after piece ended nodes =
    record {
      piece = piece;
      rest = Windows ended.rest;
      found = ended.found;
      nodes = nodes;
      stopped = ended.stopped;
      short = false;
    }

-- findings that leave the whole window of the piece: of a search that may search no node
abbrev pub untouched : SearchPiece → SearchFinding
untouched piece = record {
  piece = piece;
  rest = Whole;
  found = None;
  nodes = 0;
  stopped = false;
  short = false;
}

-- and of one to which memory was refused
abbrev pub short_of : SearchPiece → ℕ → SearchFinding
short_of piece nodes = record {
  piece = piece;
  rest = Whole;
  found = None;
  nodes = nodes;
  stopped = false;
  short = true;
}

-- whether the quantum allows no node
abbrev pub AllowsNone : Option ℕ → Bool → Type 0
AllowsNone (Some most) result = IsTrue result ↔ (most ≡ 0)
AllowsNone None result = IsFalse result
