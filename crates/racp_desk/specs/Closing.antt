-- How a run of a desk ended.
use Rattle.std.specs.Prelude.{◌≡◌, ◌⊎◌, ℕ, ◌+◌, ◌-◌, ◌*◌, ◌<◌, ◌≤◌, min, Bool, IsTrue, List, length, take, slice_index, Option, Some, None, option_map}
use Rattle.std.specs.List.{slice_get}
use Rattle.racp_model.specs.Project.{Project}
use Rattle.racp_model.specs.declared.question.Question.{Question}
use Rattle.racp_questions.specs.FirstYes.{IsReached}
use Rattle.racp_core.specs.Replies.{IsOutcomeKnown}
use Rattle.racp_core.specs.declared.replies.Outcome.{Outcome}
use Rattle.racp_core.specs.declared.replies.Outcome.TheVariants.{First, NoYes, Open}
use Rattle.racp_desk.specs.declared.log.Cause.{Cause}
use Rattle.racp_desk.specs.declared.log.Cause.TheVariants.{Stop, Turns}
use Rattle.racp_desk.specs.Log.{Tally, tally, stands_before, IsLegal}
use Rattle.racp_desk.specs.declared.closed.Closed.{Closed}

-- nothing of a question is open or out
abbrev pub IsQuietAt : Tally → ℕ → Type 0
IsQuietAt t i = (slice_index t.ready i ≡ 0) × (slice_index t.out i ≡ 0)

-- the first question that is not decided: nothing before it is open or out; where it was asked, something of it is, and
-- it stands before the least yes; where it was not, no yes is known
pub record IsFirstLeft (t : Tally) (index : ℕ) : Type 0 where
  pub most : index ≤ length t.ready
  pub quiet : (i : ℕ) → i < index → IsQuietAt t i
  pub before : index < length t.ready → IsTrue (stands_before t.least index)
  pub busy : index < length t.ready → 0 < slice_index t.ready index + slice_index t.out index
  pub unasked : index ≡ length t.ready → t.least ≡ None

-- the counts show the answer: the least yes, and nothing open or out before it; or no yes, and nothing open or out; or
-- the first question that is not decided
abbrev pub Shows : Tally → Outcome → Type 0
Shows t (First index starts) = (t.least ≡ Some index) × ((i : ℕ) → i < index → IsQuietAt t i)
Shows t NoYes = (t.least ≡ None) × ((i : ℕ) → i < length t.ready → IsQuietAt t i)
Shows t (Open index) = IsFirstLeft t index

-- the capacities that are told where the answer is open, of a series of which so many questions were asked: those of
-- the question at that place, of the last asked where that one is not asked, or none
abbrev pub told_of : List Question → ℕ → Outcome → Option (List ℕ)
told_of questions asked (Open index) =
    option_map (λ q. q.capacities) (slice_get (take asked questions) (min index (asked - 1)))
told_of questions asked (First index starts) = None
told_of questions asked NoYes = None

-- how a desk about a series was closed: what is known of the series, and a legal log that shows it
pub record IsClosed (p : Project) (questions : List Question) (turns : ℕ) (quiet : Bool)
    (closed : Closed) : Type 0 where
  pub known : IsOutcomeKnown p questions closed.outcome
  pub reached : IsReached p questions closed.reached
  pub told : closed.reached ≡ told_of questions (length (tally closed.log.items).ready) closed.outcome
  pub legal : IsLegal turns quiet closed.log.items
  pub shows : Shows (tally closed.log.items) closed.outcome
  pub pieces : closed.pieces ≡ length (tally closed.log.items).taken
  pub nodes : closed.nodes ≡ (tally closed.log.items).nodes
  pub nodes_few : closed.nodes ≤ 1000000 * closed.pieces

-- halted for a stop or for turns
abbrev pub IsEnding : Option Cause → Type 0
IsEnding cause = (cause ≡ Some Stop) ⊎ (cause ≡ Some Turns)

-- where the answer is open, the desk was halted for a stop or for turns
abbrev pub IsOpenFor : Tally → Outcome → Type 0
IsOpenFor t (Open index) = IsEnding t.halt
IsOpenFor t (First index starts) = Unit {0}
IsOpenFor t NoYes = Unit {0}

-- what a run of a desk answers
pub record IsRunClosed (p : Project) (questions : List Question) (turns : ℕ) (quiet : Bool)
    (closed : Closed) : Type 0 where
  pub closed_is : IsClosed p questions turns quiet closed
  pub open_for : IsOpenFor (tally closed.log.items) closed.outcome
