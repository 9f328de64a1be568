-- What an asker with workers is handed, and what it answers.
use Rattle.std.specs.Prelude.{◌≡◌, ◌⊎◌, ℕ, zero, suc, ◌+◌, Bool, true, false, List, [], ◌∷◌, Option, Some, None, Result, Ok, Err, IfOk, Contains, ⊤}
use Rattle.racp_model.specs.Project.{Project}
use Rattle.racp_model.specs.Formed.{AreFormed}
use Rattle.racp_model.specs.declared.question.Question.{Question}
use Rattle.racp_questions.specs.declared.asker.First.{First}
use Rattle.racp_questions.specs.declared.asker.First.TheVariants.{Yes, None as NoneIs}
use Rattle.racp_questions.specs.declared.asker.Probe.{Probe}
use Rattle.racp_questions.specs.declared.asker.Probe.TheVariants.{Yes as ProbedYes, No as ProbedNo, Open as ProbedOpen}
use Rattle.racp_questions.specs.declared.asker.AskStop.{AskStop}
use Rattle.racp_questions.specs.declared.asker.AskStop.TheVariants.{Stopped, Memory, NoThread}
use Rattle.racp_candidates.specs.AnySeries.{any_questions}
use Rattle.racp_candidates.specs.declared.any_series.AnySeries.{AnySeries}
use Rattle.racp_core.specs.declared.replies.Outcome.{Outcome}
use Rattle.racp_core.specs.declared.replies.Outcome.TheVariants.{First as FirstOutcome, NoYes, Open}
use Rattle.racp_desk.specs.declared.limits.RunLimits.{RunLimits}
use Rattle.racp_desk.specs.declared.log.Cause.TheVariants.{Stop}
use Rattle.racp_desk.specs.declared.log.Entry.{Entry}
use Rattle.racp_desk.specs.declared.log.Entry.TheVariants.{Halted}
use Rattle.racp_desk.specs.declared.fault.DeskFault.{DeskFault}
use Rattle.racp_desk.specs.declared.closed.Closed.{Closed}
use Rattle.racp_desk.specs.Closing.{IsRunClosed}

-- a call runs desks about a project, with such a stop: it may be called with each series of questions of the project's
-- form, and what it answers is the end of a run about that series within such limits
pub record RunsDesks (p : Project) (quiet : Bool) (pre : AnySeries → RunLimits → Type 0)
    (post : AnySeries → RunLimits → Result Closed DeskFault → Type 0) : Type 0 where
  pub may_run : (series : AnySeries) (limits : RunLimits) → AreFormed p (any_questions series) → pre series limits
  pub closes : (series : AnySeries) (limits : RunLimits) (result : Result Closed DeskFault) →
      post series limits result → IfOk result (IsRunClosed p (any_questions series) limits.turns quiet)

-- these runs of desks about questions for a project, with such a stop, took so many pieces in all
abbrev pub TookIn : Project → Bool → List Closed → ℕ → Type 0
TookIn p quiet [] pieces = pieces ≡ 0
TookIn p quiet (closed ∷ runs) pieces =
    (questions : List Question) × (turns before : ℕ) × IsRunClosed p questions turns quiet closed ×
    TookIn p quiet runs before × (pieces ≡ before + closed.pieces)

-- some runs took so many
abbrev pub HaveTaken : Project → Bool → ℕ → Type 0
HaveTaken p quiet pieces = ∥ ((runs : List Closed) × TookIn p quiet runs pieces) ∥₁

-- workers may stop that have so many turns: runs of desks took as many pieces, or their stop is not quiet
abbrev pub MayStop : Project → Bool → ℕ → Type 0
MayStop p quiet turns = HaveTaken p quiet turns ⊎ (quiet ≡ false)

-- memory was refused, or a worker could not be started
abbrev pub IsFault : AskStop → Type 0
IsFault (Stopped reached) = ⊥
IsFault Memory = ⊤
IsFault NoThread = ⊤

-- the first yes that a run tells; or its answer is open
abbrev pub IsFirstBy : Outcome → First → Type 0
IsFirstBy (FirstOutcome index starts) first = first ≡ Yes index starts
IsFirstBy NoYes first = first ≡ NoneIs
IsFirstBy (Open index) first = ⊥

abbrev pub IsLeftOpen : Outcome → Type 0
IsLeftOpen (FirstOutcome index starts) = ⊥
IsLeftOpen NoYes = ⊥
IsLeftOpen (Open index) = ⊤

-- what is answered by a run: the first yes, or that the answer is open, with the capacities that were reached
abbrev pub IsAnsweredBy : Closed → (told : Option (List ℕ)) → Result First AskStop → Type 0
IsAnsweredBy closed told (Ok first) = IsFirstBy closed.outcome first
IsAnsweredBy closed told (Err (Stopped reached)) =
    IsLeftOpen closed.outcome × (reached ≡ closed.reached) × (told ≡ reached)
IsAnsweredBy closed told (Err Memory) = ⊤
IsAnsweredBy closed told (Err NoThread) = ⊥

-- no further run is to come after one that left its question open: it had all turns, no turn is left, or it was stopped
abbrev pub IsOver : Option ℕ → ℕ → List Entry → Type 0
IsOver most left log = (most ≡ None) ⊎ ((left ≡ 0) ⊎ Contains log (Halted Stop))

-- the questions behind another: those of a list, or none where there is no list
abbrev pub behind : Option (List Question) → List Question
behind (Some questions) = questions
behind None = []

-- what a run about a question and about those behind it tells of it; where the first yes, or the first place that is open,
-- is behind the question, it is a no; where the question is open, and no further run is to come, the asker stops
abbrev pub probe_by : Outcome → (is_over : Bool) → Result Probe AskStop
probe_by (FirstOutcome zero starts) is_over = Ok (ProbedYes starts)
probe_by (FirstOutcome (suc index) starts) is_over = Ok ProbedNo
probe_by NoYes is_over = Ok ProbedNo
probe_by (Open (suc index)) is_over = Ok ProbedNo
probe_by (Open zero) true = Err (Stopped None)
probe_by (Open zero) false = Ok ProbedOpen
