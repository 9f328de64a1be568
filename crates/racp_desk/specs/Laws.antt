-- The log that a run of a collector leaves.
use Rattle.std.specs.Prelude.{◌≡◌, ℕ, ◌<◌, ◌≤◌, Bool, false, List, [], ◌∷◌, ◌++◌, map, is_some}
use Rattle.racp_model.specs.Project.{Project}
use Rattle.racp_model.specs.Formed.{AreFormed}
use Rattle.racp_model.specs.declared.question.Question.{Question}
use Rattle.racp_core.specs.Machine.{Machine, fresh}
use Rattle.racp_core.specs.Runs.{Call, Ask, Take, Hand, GiveBack, Halt, Step, AreTrueFindings}
use Rattle.racp_desk.specs.declared.log.Cause.{Cause}
use Rattle.racp_desk.specs.declared.log.Cause.TheVariants.{Stop, Turns, Fault}
use Rattle.racp_desk.specs.declared.log.Entry.{Entry}
use Rattle.racp_desk.specs.Log.{tally, LeavesNone, IsLegal}
use Rattle.racp_desk.specs.Desk.{Counts, windows_left, asked_entries, taken_entries, handed_entries, given_back_entries, halted_entries}

-- a call of a collector with its answer, and the cause for which it halts, where it does
pub record Event : Type 0 where
  pub call : Call
  pub cause : Cause

-- the entries that a call leaves, of a collector that was halted before, or not
abbrev pub entries_of : Bool → Call → Cause → List Entry
entries_of halted (Ask asked) cause = asked_entries asked
entries_of halted (Take seat reply) cause = taken_entries seat reply
entries_of halted (Hand finding merged) cause = handed_entries finding merged
entries_of halted (GiveBack piece merged) cause = given_back_entries piece merged
entries_of halted Halt cause = halted_entries halted cause

-- a collector of which so many pieces were taken may be halted for a cause
abbrev pub IsCause : ℕ → Bool → ℕ → Cause → Type 0
IsCause turns quiet taken Stop = quiet ≡ false
IsCause turns quiet taken Turns = taken ≡ turns
IsCause turns quiet taken Fault = Unit {0}

-- a desk makes such a call: it takes a piece while a turn is left, hands in a finding of at most 1,000,000 nodes that
-- leaves nothing where it is a yes, and halts for a cause that may stand
abbrev pub IsMade : ℕ → Bool → ℕ → Call → Cause → Type 0
IsMade turns quiet taken (Ask asked) cause = Unit {0}
IsMade turns quiet taken (Take seat reply) cause = taken < turns
IsMade turns quiet taken (Hand finding merged) cause =
    LeavesNone (is_some finding.found) (windows_left finding.rest) × (finding.nodes ≤ 1000000)
IsMade turns quiet taken (GiveBack piece merged) cause = Unit {0}
IsMade turns quiet taken Halt cause = IsCause turns quiet taken cause

-- calls that a desk makes, one after the other, and the log that they leave
abbrev pub LoggedRun : ℕ → Bool → Machine → List Event → Machine → List Entry → Type 0
LoggedRun turns quiet start [] end log = (end ≡ start) × (log ≡ [])
LoggedRun turns quiet start (e ∷ es) end log =
    (next : Machine) × (rest : List Entry) × IsMade turns quiet start.taken e.call e.cause ×
    Step start e.call next × (log ≡ entries_of start.halted e.call e.cause ++ rest) ×
    LoggedRun turns quiet next es end rest

-- whatever calls of a desk a collector has had, in any order: their log is legal, and its tally counts what the
-- collector has
abbrev pub LogsAreLegal : Type 0
LogsAreLegal =
    (turns : ℕ) (quiet : Bool) (questions : List Question) (events : List Event) (m : Machine) (log : List Entry) →
    LoggedRun turns quiet (fresh questions) events m log → IsLegal turns quiet log × Counts (tally log) m

-- each legal log is left by calls that a collector of some project's questions has had, with true findings
abbrev pub LegalLogsAreLeft : Type 0
LegalLogsAreLeft =
    (turns : ℕ) (quiet : Bool) (log : List Entry) → IsLegal turns quiet log →
    (p : Project) × (questions : List Question) × (events : List Event) × (m : Machine) × AreFormed p questions ×
    AreTrueFindings p (map (λ e. e.call) events) × LoggedRun turns quiet (fresh questions) events m log
