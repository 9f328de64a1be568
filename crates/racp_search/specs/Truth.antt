-- What a search of a piece of a question found, and when that is true.
use Rattle.std.specs.Prelude.{◌≡◌, ◌≢◌, ℕ, ◌<◌, ◌≤◌, Bool, IsTrue, IsFalse, List, [], ◌∷◌, Option, Some, None, IfSome, Contains}
use Rattle.racp_model.specs.Project.{Project}
use Rattle.racp_model.specs.Window.{Bounds, Answers, IsNo, WindowsCover, IsInside}
use Rattle.racp_model.specs.Formed.{HasBounds}
use Rattle.racp_model.specs.declared.question.Question.{Question}
use Rattle.racp_delay.specs.Laws.{lower_sum}
use Rattle.racp_search.specs.declared.finding.Rest.{Rest}
use Rattle.racp_search.specs.declared.finding.Rest.TheVariants.{Whole, Windows}

-- a piece of work: its number, the seat of the worker that took it, the place of its question in the series, and the
-- part of that question that is to be searched
pub record SearchPiece : Type 0 where
  pub number : ℕ
  pub seat : ℕ
  pub index : ℕ
  pub question : Question

-- a finding: the piece that was searched, what is left of it, the starts that were found, how many nodes were searched,
-- whether the search was stopped, and whether memory was refused to it
pub record SearchFinding : Type 0 where
  pub piece : SearchPiece
  pub rest : Rest
  pub found : Option (List ℕ)
  pub nodes : ℕ
  pub stopped : Bool
  pub short : Bool

-- the windows that are left of a window: itself, or those of the list
abbrev pub rest_windows : Bounds → Rest → List Bounds
rest_windows window Whole = window ∷ []
rest_windows window (Windows list) = list.items

-- what is left of a window: it covers the window, and each part of it lies inside and has bounds for each job
pub record IsRestOf (p : Project) (capacities : List ℕ) (window : Bounds) (rest : List Bounds) : Type 0 where
  pub covers : WindowsCover p capacities window rest
  pub inside : (part : Bounds) → Contains rest part → IsInside p window part
  pub bounds : (part : Bounds) → Contains rest part → HasBounds p part

-- starts are found that answer the question, and nothing is left; or none are found, and what is left covers
abbrev pub IsFoundOrLeft : Project → List ℕ → Bounds → Option (List ℕ) → List Bounds → Type 0
IsFoundOrLeft p capacities window (Some starts) rest = Answers p capacities window starts × (rest ≡ [])
IsFoundOrLeft p capacities window None rest = IsRestOf p capacities window rest

-- the windows that a finding leaves
abbrev pub left_windows : SearchFinding → List Bounds
left_windows finding = rest_windows finding.piece.question.window finding.rest

-- a true finding
abbrev pub IsTrueFinding : Project → SearchFinding → Type 0
IsTrueFinding p finding = IsFoundOrLeft p finding.piece.question.capacities finding.piece.question.window finding.found
    (left_windows finding)

-- what a search of a piece tells
pub record IsExplored (p : Project) (piece : SearchPiece) (quantum : Option ℕ) (finding : SearchFinding) : Type 0 where
  -- it is of the piece
  pub own : finding.piece ≡ piece
  -- it searched at most as many nodes as the quantum allows, and at least one, unless none is allowed or it was kept
  -- from searching
  pub nodes : IfSome quantum (λ most. finding.nodes ≤ most)
  pub searched : quantum ≢ Some 0 → IsFalse finding.stopped → IsFalse finding.short → 0 < finding.nodes
  -- where no node is allowed, and where memory was refused, the window of the piece is left and nothing is found
  pub idle : quantum ≡ Some 0 → (finding.rest ≡ Whole) × (finding.found ≡ None)
  pub short : IsTrue finding.short → (finding.rest ≡ Whole) × (finding.found ≡ None)
  -- a search that was stopped found nothing and leaves something
  pub stopped : IsTrue finding.stopped → (finding.found ≡ None) × (left_windows finding ≢ [])
  -- where neither is the reason, windows are left only where as many nodes were searched as the quantum allows
  pub spent : IsFalse finding.stopped → IsFalse finding.short → left_windows finding ≢ [] → quantum ≡ Some finding.nodes
  pub all : IsFalse finding.stopped → IsFalse finding.short → quantum ≡ None → left_windows finding ≡ []
  -- once a node was searched, each window that is left has a greater sum of lower bounds than the piece's
  pub higher : IsFalse finding.short → 0 < finding.nodes →
      (part : Bounds) → Contains (left_windows finding) part → lower_sum p piece.question.window < lower_sum p part

-- what is decided of a question: starts that answer it, or that nothing does
abbrev pub IsDecision : Project → List ℕ → Bounds → Option (List ℕ) → Type 0
IsDecision p capacities window (Some starts) = Answers p capacities window starts
IsDecision p capacities window None = IsNo p capacities window
