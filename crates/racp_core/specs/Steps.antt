-- The changes of the collector's states.
use Rattle.std.specs.Prelude.{◌≡◌, ℕ, ◌+◌, ◌<◌, ◌≤◌, false, nat_le, IsTrue, if◌then◌else◌, List, [], ◌∷◌, ◌++◌, length, slice_set, Option, Some, None, Contains, IsPermutation}
use Rattle.racp_model.specs.Window.{Bounds}
use Rattle.racp_model.specs.declared.question.Question.{Question}
use Rattle.racp_search.specs.Truth.{SearchPiece}
use Rattle.racp_search.specs.declared.finding.Rest.{Rest}
use Rattle.racp_search.specs.declared.finding.Rest.TheVariants.{Whole, Windows}
use Rattle.racp_core.specs.Machine.{PieceOut, QuestionRow, KnownYes, Machine, opened, row_at, is_before}

-- a piece as one that is out
abbrev pub out_of : SearchPiece → PieceOut
out_of piece = record { number = piece.number; seat = piece.seat; window = piece.question.window }

-- the piece is out: of that number, seat, place and question
abbrev pub IsOut : Machine → SearchPiece → Type 0
IsOut m piece =
    (piece.index < length m.asked) × (piece.question.capacities ≡ (row_at m.asked piece.index).question.capacities) ×
    Contains (row_at m.asked piece.index).out (out_of piece)

-- the next question is asked, and its window is open
pub record IsNextAsked (old new : Machine) (index : ℕ) : Type 0 where
  pub running : old.halted ≡ false
  pub unknown : old.least ≡ None
  pub next : index ≡ length old.asked
  pub first : (question : Question) × (later : List Question) × (old.to_come ≡ question ∷ later) ×
      (new ≡ record old { asked = old.asked ++ opened question ∷ []; to_come = later })

-- any open window of a question goes out
abbrev pub IsSent : PieceOut → QuestionRow → QuestionRow → Type 0
IsSent piece old new =
    (new.question ≡ old.question) × IsPermutation old.ready (piece.window ∷ new.ready) ×
    (new.out ≡ old.out ++ piece ∷ [])

-- the least question before the least yes that has an open window
pub record IsLeastOpen (m : Machine) (index : ℕ) : Type 0 where
  pub asked : index < length m.asked
  pub before : IsTrue (is_before m.least index)
  pub some : 0 < length (row_at m.asked index).ready
  pub least : (j : ℕ) → j < index → (row_at m.asked j).ready ≡ []

-- no question before the least yes has an open window
abbrev pub HasNoOpen : Machine → Type 0
HasNoOpen m = (i : ℕ) → i < length m.asked → IsTrue (is_before m.least i) → (row_at m.asked i).ready ≡ []

-- a piece goes out, with the next number
pub record IsPieceTaken (old : Machine) (seat : ℕ) (piece : SearchPiece) (new : Machine) : Type 0 where
  pub least : IsLeastOpen old piece.index
  pub number : piece.number ≡ old.taken
  pub seated : piece.seat ≡ seat
  pub capacities : piece.question.capacities ≡ (row_at old.asked piece.index).question.capacities
  pub row : (row : QuestionRow) × IsSent (out_of piece) (row_at old.asked piece.index) row ×
      (new ≡ record old { asked = slice_set old.asked piece.index row; taken = old.taken + 1 })

-- a piece of a question is in, and these windows are open in its place
abbrev pub IsBack : PieceOut → List Bounds → QuestionRow → QuestionRow → Type 0
IsBack piece windows old new =
    (new.question ≡ old.question) × (new.ready ≡ old.ready ++ windows) × IsPermutation old.out (piece ∷ new.out)

-- the windows that open of a question: none at or after the least yes
abbrev pub windows_before : Option KnownYes → ℕ → List Bounds → List Bounds
windows_before least i windows = if is_before least i then windows else []

-- a piece is in without a yes, and these windows are open in its place
pub record IsReturned (old : Machine) (piece : SearchPiece) (windows : List Bounds) (new : Machine) : Type 0 where
  pub out : IsOut old piece
  pub row : (row : QuestionRow) × IsBack (out_of piece) (windows_before old.least piece.index windows)
      (row_at old.asked piece.index) row ×
      (new ≡ record old { asked = slice_set old.asked piece.index row })

-- the lesser of a yes and the least that was known
abbrev pub lesser : Option KnownYes → KnownYes → KnownYes
lesser None y = y
lesser (Some x) y = if nat_le x.index y.index then x else y

-- a question without its open windows
abbrev pub shut : QuestionRow → QuestionRow
shut row = record row { ready = [] }

-- from a place on the questions are without their open windows, and those before stay
pub record AreShutFrom (index : ℕ) (old new : List QuestionRow) : Type 0 where
  pub places : length new ≡ length old
  pub before : (i : ℕ) → i < index → row_at new i ≡ row_at old i
  pub after : (i : ℕ) → index ≤ i → i < length old → row_at new i ≡ shut (row_at old i)

-- a piece is in with a yes: the open windows of its question and of each later one are gone
pub record IsAnswered (old : Machine) (piece : SearchPiece) (starts : List ℕ) (new : Machine) : Type 0 where
  pub out : IsOut old piece
  pub row : (row : QuestionRow) × IsBack (out_of piece) [] (row_at old.asked piece.index) row ×
      AreShutFrom piece.index (slice_set old.asked piece.index row) new.asked
  pub changed : new ≡ record old {
    asked = new.asked;
    least = Some (lesser old.least (record { index = piece.index; starts = starts }));
  }

-- how many windows a rest lists
abbrev pub listed : Rest → ℕ
listed Whole = 0
listed (Windows windows) = length windows.items
