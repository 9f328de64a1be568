-- What is true of the collector's states, of a network.
use Rattle.std.specs.Prelude.{◌≡◌, ◌↔◌, ℕ, ◌<◌, IsTrue, IsFalse, List, [], ◌++◌, length, map, Option, Some, None, Contains}
use Rattle.racp_model.specs.Project.{Project}
use Rattle.racp_model.specs.Window.{Bounds, Answers}
use Rattle.racp_model.specs.Formed.{AreFormed}
use Rattle.racp_search.specs.Truth.{IsRestOf}
use Rattle.racp_core.specs.Machine.{QuestionRow, KnownYes, Machine, all_questions, row_at, is_before, is_undecided}

-- the windows of a question that are open, and those of its pieces that are out
abbrev pub held_windows : QuestionRow → List Bounds
held_windows row = row.ready ++ map (λ piece. piece.window) row.out

-- they cover the question's window, and lie inside it
abbrev pub IsKept : Project → QuestionRow → Type 0
IsKept p row = IsRestOf p row.question.capacities row.question.window (held_windows row)

-- the starts of the least yes answer its question
abbrev pub HasAnswer : Project → List QuestionRow → Option KnownYes → Type 0
HasAnswer p asked None = Unit {0}
HasAnswer p asked (Some y) =
    (y.index < length asked) ×
    Answers p (row_at asked y.index).question.capacities (row_at asked y.index).question.window y.starts

-- of each question before the least yes what is open or out covers its window and lies inside it; the least yes
-- answers; no window is open from there on; the questions have the network's form; and if the series has ended none
-- is to come
pub record IsSoundState (p : Project) (m : Machine) : Type 0 where
  pub kept : (i : ℕ) → i < length m.asked → IsTrue (is_before m.least i) → IsKept p (row_at m.asked i)
  pub answers : HasAnswer p m.asked m.least
  pub shut : (i : ℕ) → i < length m.asked → IsFalse (is_before m.least i) → (row_at m.asked i).ready ≡ []
  pub formed : AreFormed p (all_questions m)
  pub finished : IsTrue m.ended → m.to_come ≡ []

-- the places of the undecided questions
abbrev pub AreUndecided : Option KnownYes → List QuestionRow → List ℕ → Type 0
AreUndecided least asked places = (i : ℕ) → Contains places i ↔ IsTrue (is_undecided least asked i)

-- a state with the places of its undecided questions, of which all is true
pub record IsState (p : Project) (m : Machine) (places : List ℕ) : Type 0 where
  pub sound : IsSoundState p m
  pub undecided : AreUndecided m.least m.asked places
