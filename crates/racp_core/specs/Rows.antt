-- Contracts of private functions: rows of questions, and the places of those that are not decided.
use Rattle.std.specs.Prelude.{◌≡◌, ◌↔◌, ◌⊎◌, ℕ, ◌+◌, ◌<◌, ◌≤◌, Bool, true, false, List, [], ◌∷◌, ◌++◌, length, slice_index_or, Option, Some, None, Contains}
use Rattle.racp_model.specs.declared.question.Question.{Question}
use Rattle.racp_search.specs.Truth.{SearchPiece}
use Rattle.racp_core.specs.Machine.{PieceOut, QuestionRow, opened, row_at}
use Rattle.racp_core.specs.Steps.{out_of, IsSent}

-- what is read at a place where no piece is out
abbrev pub no_out : PieceOut
no_out = record { number = 0; seat = 0; window = record { lower = []; upper = [] } }

-- a piece of this number, seat and place was cut from a question: any of its open windows, with its capacities
pub record IsCut (number seat index : ℕ) (old : QuestionRow) (piece : SearchPiece) (new : QuestionRow) : Type 0 where
  pub numbered : piece.number ≡ number
  pub seated : piece.seat ≡ seat
  pub placed : piece.index ≡ index
  pub capacities : piece.question.capacities ≡ old.question.capacities
  pub sent : IsSent (out_of piece) old new

-- where a piece that is out stands among those of its question
pub record IsPlace (row : QuestionRow) (piece : SearchPiece) (at : ℕ) : Type 0 where
  pub capacities : piece.question.capacities ≡ row.question.capacities
  pub within : at < length row.out
  pub is : slice_index_or row.out at no_out ≡ out_of piece

-- where a piece that is out stands among those of the question at its place
pub record IsPlaceIn (asked : List QuestionRow) (piece : SearchPiece) (at : ℕ) : Type 0 where
  pub index : piece.index < length asked
  pub place : IsPlace (row_at asked piece.index) piece at

-- a place is added to some, if it is one of them; it is taken from them; the later ones are
abbrev pub IsAdded : List ℕ → ℕ → List ℕ → Type 0
IsAdded old place new = (i : ℕ) → Contains new i ↔ (Contains old i ⊎ (i ≡ place))

abbrev pub IsRemoved : List ℕ → ℕ → List ℕ → Type 0
IsRemoved old place new = (i : ℕ) → Contains new i ↔ (Contains old i × (i ≡ place → ⊥))

abbrev pub IsCutAt : List ℕ → ℕ → List ℕ → Type 0
IsCutAt old end new = (i : ℕ) → Contains new i ↔ (Contains old i × (i < end))

-- a place stays if its question has something open or out
abbrev pub IsRemovedIfDone : List QuestionRow → List ℕ → ℕ → List ℕ → Type 0
IsRemovedIfDone asked old place new =
    (i : ℕ) → Contains new i ↔
    (Contains old i × (i ≡ place → 0 < length (row_at asked place).ready + length (row_at asked place).out))

-- the first of some places, in order
pub record IsFirstPlace (places : List ℕ) (place : ℕ) : Type 0 where
  pub is : Contains places place
  pub least : (i : ℕ) → Contains places i → place ≤ i

-- the first of some places at which a question has an open window
pub record IsFirstReady (asked : List QuestionRow) (places : List ℕ) (place : ℕ) : Type 0 where
  pub is : Contains places place
  pub asked_there : place < length asked
  pub some : 0 < length (row_at asked place).ready
  pub least : (i : ℕ) → Contains places i → i < place → (row_at asked i).ready ≡ []

-- the next question, if there is one, is asked
pub record IsOpening (question : Question) (asked : List QuestionRow) (places : List ℕ) (rows : List QuestionRow)
    (more : List ℕ) : Type 0 where
  pub asked_next : rows ≡ asked ++ opened question ∷ []
  pub added : IsAdded places (length asked) more

abbrev pub IsOpenedIf : Option Question → List QuestionRow → List ℕ → Bool → Option Question → List QuestionRow →
    List ℕ → Type 0
IsOpenedIf (Some question) asked places true next rows more = (next ≡ None) × IsOpening question asked places rows more
IsOpenedIf (Some question) asked places false next rows more = ⊥
IsOpenedIf None asked places true next rows more = ⊥
IsOpenedIf None asked places false next rows more = (next ≡ None) × (rows ≡ asked) × (more ≡ places)
