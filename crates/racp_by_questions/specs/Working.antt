-- Contracts of private functions: a collector of one seat, of which each piece is searched to its end before the next is taken.
use Rattle.std.specs.Prelude.{⊤, ◌≡◌, ◌≢◌, ◌↔◌, ◌+◌, ◌<◌, Bool, true, false, IsTrue, [], ◌∷◌, length, Option, Some, None}
use Rattle.racp_model.specs.Project.{Project}
use Rattle.racp_model.specs.Window.{Answers, IsNo}
use Rattle.racp_model.specs.Formed.{IsFormed}
use Rattle.racp_questions.specs.declared.asker.AskStop.{AskStop}
use Rattle.racp_questions.specs.declared.asker.AskStop.TheVariants.{Stopped, Memory, NoThread}
use Rattle.racp_questions.specs.declared.asker.Probe.{Probe}
use Rattle.racp_questions.specs.declared.asker.Probe.TheVariants.{Yes, No, Open}
use Rattle.racp_search.specs.Truth.{SearchPiece, SearchFinding, left_windows}
use Rattle.racp_search.specs.declared.finding.Rest.{Rest}
use Rattle.racp_search.specs.declared.finding.Rest.TheVariants.{Whole, Windows}
use Rattle.racp_core.specs.Machine.{Machine, row_at, AreDone, IsSettled}
use Rattle.racp_core.specs.Steps.{out_of}

-- it runs, no yes is known, each asked question is done, and of each one piece was taken
pub record IsIdle (m : Machine) : Type 0 where
  pub running : m.halted ≡ false
  pub unknown : m.least ≡ None
  pub done : AreDone m.asked (length m.asked)
  pub numbered : m.taken ≡ length m.asked

-- the same, but for the last asked question, of which this piece is out and nothing is open
pub record IsAtWork (m : Machine) (piece : SearchPiece) : Type 0 where
  pub running : m.halted ≡ false
  pub unknown : m.least ≡ None
  pub last : length m.asked ≡ piece.index + 1
  pub done : AreDone m.asked piece.index
  pub numbered : m.taken ≡ length m.asked
  pub ready : (row_at m.asked piece.index).ready ≡ []
  pub out : (row_at m.asked piece.index).out ≡ out_of piece ∷ []
  pub capacities : piece.question.capacities ≡ (row_at m.asked piece.index).question.capacities

-- the next question is asked, and the one piece of it taken; or no more question is to come, and the answer is known
abbrev pub IsNextPiece : Project → Machine → Option SearchPiece → Machine → Type 0
IsNextPiece p old (Some piece) new = IsAtWork new piece × IsFormed p piece.question ×
    (length new.to_come < length old.to_come)
IsNextPiece p old None new = IsSettled new

-- the finding of the last asked question is in: the question is done, or the answer is known
abbrev pub IsHandedIn : Machine → Bool → Machine → Type 0
IsHandedIn old true new = IsIdle new × (new.to_come ≡ old.to_come)
IsHandedIn old false new = IsSettled new

-- the next question is done, or the answer is known
abbrev pub IsGoneOn : Machine → Bool → Machine → Type 0
IsGoneOn old true new = IsIdle new × (length new.to_come < length old.to_come)
IsGoneOn old false new = IsSettled new

-- whether windows are left of a piece
abbrev pub IsLeft : Rest → Bool → Type 0
IsLeft Whole result = IsTrue result
IsLeft (Windows list) result = IsTrue result ↔ (list.items ≢ [])

-- what a finding tells of its question: starts that answer it, that it is a no, or that windows of it are left
abbrev pub IsProbeOf : Project → SearchFinding → Probe → Type 0
IsProbeOf p finding (Yes starts) = Answers p finding.piece.question.capacities finding.piece.question.window starts
IsProbeOf p finding No = IsNo p finding.piece.question.capacities finding.piece.question.window
IsProbeOf p finding Open = left_windows finding ≢ []

-- why a search tells nothing: memory was refused to it, or it was stopped, if that may be
abbrev pub IsGivenUp : (may_stop : Type 0) → AskStop → Type 0
IsGivenUp may_stop (Stopped reached) = (reached ≡ None) × may_stop
IsGivenUp may_stop Memory = ⊤
IsGivenUp may_stop NoThread = ⊥
