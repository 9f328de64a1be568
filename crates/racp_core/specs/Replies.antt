-- What the collector answers to each call, and the change that goes with it.
use Rattle.std.specs.Prelude.{◌≡◌, ℕ, ◌-◌, ◌^◌, ◌<◌, ◌≤◌, min, true, false, IsTrue, IsFalse, List, [], ◌∷◌, length, Option, Some, None, option_map}
use Rattle.std.specs.List.{slice_get}
use Rattle.racp_model.specs.Project.{Project}
use Rattle.racp_model.specs.Window.{Answers}
use Rattle.racp_model.specs.Formed.{IsFormed}
use Rattle.racp_model.specs.declared.question.Question.{Question}
use Rattle.racp_questions.specs.FirstYes.{question_at, IsFirstYes, AreNoBefore}
use Rattle.racp_search.specs.Truth.{SearchPiece, SearchFinding, rest_windows}
use Rattle.racp_core.specs.Machine.{QuestionRow, Machine, IsSettled, is_undecided}
use Rattle.racp_core.specs.Steps.{IsNextAsked, IsPieceTaken, HasNoOpen, IsOut, IsReturned, IsAnswered}
use Rattle.racp_core.specs.declared.replies.Asked.{Asked}
use Rattle.racp_core.specs.declared.replies.Asked.TheVariants.{Question as Next, End, Enough, Halted as AskHalted}
use Rattle.racp_core.specs.declared.replies.Reply.{Reply}
use Rattle.racp_core.specs.declared.replies.Reply.TheVariants.{Piece as Work, Nothing, Done, Halted as TakeHalted}
use Rattle.racp_core.specs.declared.replies.Merged.{Merged}
use Rattle.racp_core.specs.declared.replies.Merged.TheVariants.{Taken, Stale}
use Rattle.racp_core.specs.declared.replies.Verdict.{Verdict}
use Rattle.racp_core.specs.declared.replies.Verdict.TheVariants.{First, NoYes, Pending}
use Rattle.racp_core.specs.declared.replies.Outcome.{Outcome}
use Rattle.racp_core.specs.declared.replies.Outcome.TheVariants.{First as FirstOutcome, NoYes as NoYesOutcome, Open}

-- asking: the next question, of a collector that runs and knows no yes, if there is one
abbrev pub IsAsked : Machine → Asked → Machine → Type 0
IsAsked old (Next index) new = IsNextAsked old new index
IsAsked old End new = (old.halted ≡ false) × (old.least ≡ None) × (old.to_come ≡ []) ×
    (new ≡ record old { ended = true })
IsAsked old Enough new = (old.halted ≡ false) × (old.least ≡ None → ⊥) × (new ≡ old)
IsAsked old AskHalted new = (old.halted ≡ true) × (new ≡ old)

-- the place of a question that was asked is less than the greatest number of 64 bits
abbrev pub IsSmallPlace : Asked → Type 0
IsSmallPlace (Next index) = index < 2 ^ 64 - 1
IsSmallPlace End = Unit {0}
IsSmallPlace Enough = Unit {0}
IsSmallPlace AskHalted = Unit {0}

-- taking a piece, if the answer is pending and the collector runs
abbrev pub IsTaken : Machine → ℕ → Reply SearchPiece → Machine → Type 0
IsTaken old seat (Work piece) new = (IsSettled old → ⊥) × (old.halted ≡ false) × IsPieceTaken old seat piece new
IsTaken old seat Nothing new = (IsSettled old → ⊥) × (old.halted ≡ false) × HasNoOpen old × (new ≡ old)
IsTaken old seat Done new = IsSettled old × (new ≡ old)
IsTaken old seat TakeHalted new = (IsSettled old → ⊥) × (old.halted ≡ true) × (new ≡ old)

-- a finding comes in with a yes, or with what is left
abbrev pub IsMerged : Machine → SearchFinding → Option (List ℕ) → Machine → Type 0
IsMerged old finding (Some starts) new = IsAnswered old finding.piece starts new
IsMerged old finding None new =
    IsReturned old finding.piece (rest_windows finding.piece.question.window finding.rest) new

-- handing in a finding
abbrev pub IsHanded : Machine → SearchFinding → Merged → Machine → Type 0
IsHanded old finding Taken new = IsMerged old finding finding.found new
IsHanded old finding Stale new = (IsOut old finding.piece → ⊥) × (new ≡ old)

-- giving a piece back
abbrev pub IsGivenBack : Machine → SearchPiece → Merged → Machine → Type 0
IsGivenBack old piece Taken new = IsReturned old piece (piece.question.window ∷ []) new
IsGivenBack old piece Stale new = (IsOut old piece → ⊥) × (new ≡ old)

-- the least asked question that is not decided, or the number of asked questions
pub record IsFirstOpen (m : Machine) (index : ℕ) : Type 0 where
  pub most : index ≤ length m.asked
  pub decided : (i : ℕ) → i < index → IsFalse (is_undecided m.least m.asked i)
  pub open_there : index < length m.asked → IsTrue (is_undecided m.least m.asked index)

-- the answer of a state
abbrev pub IsVerdict : Machine → Verdict → Type 0
IsVerdict m (First index starts) = IsSettled m × (m.least ≡ Some (record { index = index; starts = starts.now }))
IsVerdict m NoYes = IsSettled m × (m.least ≡ None)
IsVerdict m (Pending index) = (IsSettled m → ⊥) × IsFirstOpen m index

-- the same, with the starts moved out
abbrev pub IsOutcome : Machine → Outcome → Type 0
IsOutcome m (FirstOutcome index starts) = IsSettled m × (m.least ≡ Some (record { index = index; starts = starts }))
IsOutcome m NoYesOutcome = IsSettled m × (m.least ≡ None)
IsOutcome m (Open index) = (IsSettled m → ⊥) × IsFirstOpen m index

-- what an answer says of the list of all questions: the first yes; that there is none; or that each before a place is a
-- no
abbrev pub IsYesKnown : Project → List Question → ℕ → List ℕ → Type 0
IsYesKnown p questions index starts =
    IsFirstYes p questions (Some index) ×
    Answers p (question_at questions index).capacities (question_at questions index).window starts

abbrev pub IsKnown : Project → List Question → Verdict → Type 0
IsKnown p questions (First index starts) = IsYesKnown p questions index starts.now
IsKnown p questions NoYes = IsFirstYes p questions None
IsKnown p questions (Pending index) = AreNoBefore p questions index

abbrev pub IsOutcomeKnown : Project → List Question → Outcome → Type 0
IsOutcomeKnown p questions (FirstOutcome index starts) = IsYesKnown p questions index starts
IsOutcomeKnown p questions NoYesOutcome = IsFirstYes p questions None
IsOutcomeKnown p questions (Open index) = AreNoBefore p questions index

-- the capacities that were reached if the answer is open: those of the first open question, of the last asked if
-- that one is not asked, or none
abbrev pub capacities_at : List QuestionRow → ℕ → Option (List ℕ)
capacities_at asked place = option_map (λ row. row.question.capacities) (slice_get asked (min place (length asked - 1)))

abbrev pub reached_by : Machine → Outcome → Option (List ℕ)
reached_by m (Open index) = capacities_at m.asked index
reached_by m (FirstOutcome index starts) = None
reached_by m NoYesOutcome = None

-- the question of a piece that was taken has the network's form
abbrev pub IsFormedReply : Project → Reply SearchPiece → Type 0
IsFormedReply p (Work piece) = IsFormed p piece.question
IsFormedReply p Nothing = Unit {0}
IsFormedReply p Done = Unit {0}
IsFormedReply p TakeHalted = Unit {0}
