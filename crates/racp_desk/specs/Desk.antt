-- A desk: a collector, and the log of what happened to it.
use Rattle.std.specs.Prelude.{◌≡◌, ℕ, ◌<◌, ◌≤◌, Bool, true, false, if◌then◌else◌, nat_eq, IsTrue, List, [], ◌∷◌, length, slice_index, is_some, option_map, Contains}
use Rattle.std.specs.List.{sum_by}
use Rattle.racp_model.specs.declared.question.Question.{Question}
use Rattle.racp_search.specs.declared.finding.Rest.{Rest}
use Rattle.racp_search.specs.declared.finding.Rest.TheVariants.{Whole, Windows}
use Rattle.racp_search.specs.Truth.{SearchPiece, SearchFinding}
use Rattle.racp_core.specs.Machine.{Machine, PieceOut, row_at, all_questions, is_before}
use Rattle.racp_core.specs.Steps.{IsOut}
use Rattle.racp_core.specs.declared.replies.Asked.{Asked as AskReply}
use Rattle.racp_core.specs.declared.replies.Asked.TheVariants.{Question as Next, End, Enough, Halted as AskHalted}
use Rattle.racp_core.specs.declared.replies.Reply.{Reply}
use Rattle.racp_core.specs.declared.replies.Reply.TheVariants.{Piece as Work, Nothing, Done, Halted as TakeHalted}
use Rattle.racp_core.specs.declared.replies.Merged.{Merged}
use Rattle.racp_core.specs.declared.replies.Merged.TheVariants.{Taken as WasTaken, Stale}
use Rattle.racp_desk.specs.declared.log.Cause.{Cause}
use Rattle.racp_desk.specs.declared.log.Entry.{Entry}
use Rattle.racp_desk.specs.declared.log.Entry.TheVariants.{Asked, Taken, Handed, GivenBack, Halted}
use Rattle.racp_desk.specs.Log.{Tally, TakenPiece, tally, piece_at}

-- a collector and its log
pub record Desk : Type 0 where
  pub core : Machine
  pub log : List Entry

-- 1 for a piece of this number, else 0
abbrev pub has_number : ℕ → PieceOut → ℕ
has_number number piece = if nat_eq piece.number number then 1 else 0

-- a piece that is out, as the tally has it
abbrev pub as_taken : ℕ → PieceOut → TakenPiece
as_taken index piece = record { seat = piece.seat; index = index; is_out = true }

-- a tally counts what a collector has: the open windows of each question before the least yes, the pieces of each
-- question that are out, each by its own number, how many were taken, the least yes, and whether it was halted
pub record Counts (t : Tally) (m : Machine) : Type 0 where
  pub ready_places : length t.ready ≡ length m.asked
  pub out_places : length t.out ≡ length m.asked
  pub ready : (i : ℕ) → i < length m.asked → IsTrue (is_before m.least i) →
      slice_index t.ready i ≡ length (row_at m.asked i).ready
  pub out : (i : ℕ) → i < length m.asked → slice_index t.out i ≡ length (row_at m.asked i).out
  pub taken : length t.taken ≡ m.taken
  pub pieces : (i : ℕ) (piece : PieceOut) → i < length m.asked → Contains (row_at m.asked i).out piece →
      (piece.number < length t.taken) × (piece_at t piece.number ≡ as_taken i piece)
  pub once : (i number : ℕ) → i < length m.asked → sum_by (has_number number) (row_at m.asked i).out ≤ 1
  pub least : t.least ≡ option_map (λ y. y.index) m.least
  pub halted : is_some t.halt ≡ m.halted

-- what is kept of a desk about a series of questions
pub record IsDesk (series : List Question) (m : Machine) (log : List Entry) : Type 0 where
  pub counts : Counts (tally log) m
  pub series_is : all_questions m ≡ series

-- a piece is not out
abbrev pub IsIn : Machine → SearchPiece → Type 0
IsIn m piece = IsOut m piece → ⊥

-- how many windows a rest has
abbrev pub windows_left : Rest → ℕ
windows_left Whole = 1
windows_left (Windows list) = length list.items

-- the entries of each call, by its answer
abbrev pub asked_entries : AskReply → List Entry
asked_entries (Next index) = Asked index ∷ []
asked_entries End = []
asked_entries Enough = []
asked_entries AskHalted = []

abbrev pub taken_entries : ℕ → Reply SearchPiece → List Entry
taken_entries seat (Work piece) = Taken seat piece.number piece.index ∷ []
taken_entries seat Nothing = []
taken_entries seat Done = []
taken_entries seat TakeHalted = []

abbrev pub handed_entries : SearchFinding → Merged → List Entry
handed_entries f WasTaken = Handed f.piece.seat f.piece.number (windows_left f.rest) (is_some f.found) f.nodes ∷ []
handed_entries f Stale = []

abbrev pub given_back_entries : SearchPiece → Merged → List Entry
given_back_entries piece WasTaken = GivenBack piece.seat piece.number ∷ []
given_back_entries piece Stale = []

abbrev pub halted_entries : Bool → Cause → List Entry
halted_entries true cause = []
halted_entries false cause = Halted cause ∷ []
