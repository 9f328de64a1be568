-- Calls of the collector with their answers, one after the other.
use Rattle.std.specs.Prelude.{◌≡◌, ℕ, true, List, [], ◌∷◌, Contains}
use Rattle.racp_model.specs.Project.{Project}
use Rattle.racp_model.specs.Formed.{AreFormed}
use Rattle.racp_model.specs.declared.question.Question.{Question}
use Rattle.racp_search.specs.Truth.{SearchPiece, SearchFinding, IsTrueFinding}
use Rattle.racp_core.specs.declared.replies.Asked.{Asked}
use Rattle.racp_core.specs.declared.replies.Reply.{Reply}
use Rattle.racp_core.specs.declared.replies.Merged.{Merged}
use Rattle.racp_core.specs.Machine.{Machine, all_questions, fresh}
use Rattle.racp_core.specs.Truth.{IsSoundState}
use Rattle.racp_core.specs.Replies.{IsAsked, IsTaken, IsHanded, IsGivenBack}

-- a call with its answer
pub data Call : Type 0 where
  Ask : Asked → Call
  Take : (seat : ℕ) → Reply SearchPiece → Call
  Hand : SearchFinding → Merged → Call
  GiveBack : SearchPiece → Merged → Call
  Halt : Call

-- a call that was answered, and not refused: the state before, the call with its answer, the state after
abbrev pub Step : Machine → Call → Machine → Type 0
Step old (Ask asked) new = IsAsked old asked new
Step old (Take seat reply) new = IsTaken old seat reply new
Step old (Hand finding merged) new = IsHanded old finding merged new
Step old (GiveBack piece merged) new = IsGivenBack old piece merged new
Step old Halt new = new ≡ record old { halted = true }

-- a list of steps, one after the other
abbrev pub Run : Machine → List Call → Machine → Type 0
Run start [] end = end ≡ start
Run start (call ∷ calls) end = (next : Machine) × Step start call next × Run next calls end

-- the findings that are handed in are true
abbrev pub AreTrueFindings : Project → List Call → Type 0
AreTrueFindings p calls = (finding : SearchFinding) (merged : Merged) → Contains calls (Hand finding merged) →
    IsTrueFinding p finding

-- whatever calls a collector has had, in any order: if the findings were true and the questions had the network's
-- form, the facts hold of its state, and its questions, asked and still to come, are those of the series
abbrev pub RunsAreSound : Type 0
RunsAreSound =
    (p : Project) (questions : List Question) (calls : List Call) (m : Machine) → AreFormed p questions →
    AreTrueFindings p calls → Run (fresh questions) calls m → IsSoundState p m × (all_questions m ≡ questions)
