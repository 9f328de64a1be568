-- The collector as a machine: what it has been asked, what is still to be searched, and what it knows.
use Rattle.std.specs.Prelude.{◌≡◌, ℕ, ◌+◌, ◌<◌, ◌&&◌, Bool, true, false, nat_lt, IsTrue, List, [], ◌∷◌, ◌++◌, length, map, slice_index_or, Option, Some, None, option_to_list}
use Rattle.std.specs.List.{filter, range_with_len}
use Rattle.racp_model.specs.Window.{Bounds}
use Rattle.racp_model.specs.declared.question.Question.{Question}
use Rattle.racp_questions.specs.FirstYes.{no_question, question_at}

-- a piece that is out: its number, the seat of the worker that took it, and its window
pub record PieceOut : Type 0 where
  pub number : ℕ
  pub seat : ℕ
  pub window : Bounds

-- a question that was asked, the windows of it that are open, and the pieces of it that are out
pub record QuestionRow : Type 0 where
  pub question : Question
  pub ready : List Bounds
  pub out : List PieceOut

-- a yes: the place of its question, and starts that answer it
pub record KnownYes : Type 0 where
  pub index : ℕ
  pub starts : List ℕ

-- a state: the questions that were asked, those still to come, the least yes that is known, how many pieces were taken
-- (so the next number), whether the series has ended, and whether the collector was halted
pub record Machine : Type 0 where
  pub asked : List QuestionRow
  pub to_come : List Question
  pub least : Option KnownYes
  pub taken : ℕ
  pub ended : Bool
  pub halted : Bool

-- a state, by what a collector holds: the next question, if there is one, and those after it are still to come
abbrev pub machine_of : List QuestionRow → Option Question → List Question → Option KnownYes → ℕ → Bool → Bool → Machine
machine_of asked next later least taken ended halted =
    record {
      asked = asked;
      to_come = option_to_list next ++ later;
      least = least;
      taken = taken;
      ended = ended;
      halted = halted;
    }

-- a collector of which nothing was asked
abbrev pub fresh : List Question → Machine
fresh questions = record { asked = []; to_come = questions; least = None; taken = 0; ended = false; halted = false }

-- all questions: those that were asked, and those still to come
abbrev pub all_questions : Machine → List Question
all_questions m = map (λ row. row.question) m.asked ++ m.to_come

-- a question whose window is open
abbrev pub opened : Question → QuestionRow
opened question = record { question = question; ready = question.window ∷ []; out = [] }

-- what is read at a place where no question was asked
abbrev pub no_row : QuestionRow
no_row = record { question = no_question; ready = []; out = [] }

-- the asked question at a place
abbrev pub row_at : List QuestionRow → ℕ → QuestionRow
row_at asked i = slice_index_or asked i no_row

-- a question was asked, and it is the one at this place of the series
abbrev pub IsAskedAt : Machine → ℕ → Question → Type 0
IsAskedAt m index question = (index < length m.asked) × (question ≡ question_at (all_questions m) index)

-- whether the place stands before the least yes
abbrev pub is_before : Option KnownYes → ℕ → Bool
is_before None i = true
is_before (Some y) i = nat_lt i y.index

-- nothing of the question is open or out
abbrev pub IsDone : QuestionRow → Type 0
IsDone row = (row.ready ≡ []) × (row.out ≡ [])

-- each asked question before a place is done
abbrev pub AreDone : List QuestionRow → ℕ → Type 0
AreDone asked n = (i : ℕ) → i < n → IsDone (row_at asked i)

-- the answer is known: of the questions before the least yes each is decided; or the series has ended, and each is
abbrev pub IsSettledBy : Option KnownYes → Bool → List QuestionRow → Type 0
IsSettledBy (Some y) ended asked = AreDone asked y.index
IsSettledBy None ended asked = IsTrue ended × AreDone asked (length asked)

abbrev pub IsSettled : Machine → Type 0
IsSettled m = IsSettledBy m.least m.ended m.asked

-- whether the asked question at a place is not decided: it stands before the least yes, and something of it is open or
-- out
abbrev pub is_undecided : Option KnownYes → List QuestionRow → ℕ → Bool
is_undecided least asked i = is_before least i && nat_lt 0 (length (row_at asked i).ready + length (row_at asked i).out)

-- how many are not
unfoldable pub undecided_count : Machine → ℕ
undecided_count m = length (filter (is_undecided m.least m.asked) (range_with_len 0 (length m.asked)))

-- a collector that asks: it runs, knows no yes, and its series has not ended
abbrev pub IsAsking : Machine → Type 0
IsAsking m = (m.halted ≡ false) × (m.least ≡ None) × (m.ended ≡ false)
