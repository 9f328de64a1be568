-- The first question of a list that is a yes, and what an asker answers.
use Rattle.std.specs.Prelude.{◌≡◌, ◌≢◌, ℕ, ◌<◌, List, [], length, slice_index_or, Option, Some, None, ⊤}
use Rattle.racp_model.specs.Project.{Project}
use Rattle.racp_model.specs.Window.{Answers, IsYes, IsNo}
use Rattle.racp_model.specs.declared.question.Question.{Question}
use Rattle.racp_questions.specs.declared.asker.First.{First}
use Rattle.racp_questions.specs.declared.asker.First.TheVariants.{Yes, None as NoYes}
use Rattle.racp_questions.specs.declared.asker.Probe.{Probe}
use Rattle.racp_questions.specs.declared.asker.Probe.TheVariants.{Yes as ProbedYes, No as ProbedNo, Open as ProbedOpen}
use Rattle.racp_questions.specs.declared.asker.AskStop.{AskStop}
use Rattle.racp_questions.specs.declared.asker.AskStop.TheVariants.{Stopped, Memory, NoThread}

-- what is read at a place where there is no question
abbrev pub no_question : Question
no_question = record { capacities = []; window = record { lower = []; upper = [] } }

-- the question at a place
abbrev pub question_at : List Question → ℕ → Question
question_at questions i = slice_index_or questions i no_question

-- the question at a place is a yes; it is infeasible
abbrev pub IsYesAt : Project → List Question → ℕ → Type 0
IsYesAt p questions i = IsYes p (question_at questions i).capacities (question_at questions i).window

abbrev pub IsNoAt : Project → List Question → ℕ → Type 0
IsNoAt p questions i = IsNo p (question_at questions i).capacities (question_at questions i).window

-- each question before a place is infeasible
abbrev pub AreNoBefore : Project → List Question → ℕ → Type 0
AreNoBefore p questions n = (i : ℕ) → i < n → IsNoAt p questions i

-- the first yes of a list of questions: the least index whose question is a yes, or none if each question is infeasible
abbrev pub IsFirstYes : Project → List Question → Option ℕ → Type 0
IsFirstYes p questions (Some index) = (index < length questions) × IsYesAt p questions index ×
    AreNoBefore p questions index
IsFirstYes p questions None = AreNoBefore p questions (length questions)

-- the first yes with starts that answer its question, or that there is none
abbrev pub IsFirst : Project → List Question → First → Type 0
IsFirst p questions (Yes index starts) =
    IsFirstYes p questions (Some index) ×
    Answers p (question_at questions index).capacities (question_at questions index).window starts
IsFirst p questions NoYes = IsFirstYes p questions None

-- what a search of one question tells: starts that answer it, that it is infeasible, or neither, if its nodes had a bound
abbrev pub IsProbed : Project → Question → (most : Option ℕ) → Probe → Type 0
IsProbed p question most (ProbedYes starts) = Answers p question.capacities question.window starts
IsProbed p question most ProbedNo = IsNo p question.capacities question.window
IsProbed p question most ProbedOpen = most ≢ None

-- where a search was stopped: at the capacities of a question before which each question is infeasible, or at none
abbrev pub IsReached : Project → List Question → Option (List ℕ) → Type 0
IsReached p questions (Some capacities) =
    (i : ℕ) × (i < length questions) × ((question_at questions i).capacities ≡ capacities) × AreNoBefore p questions i
IsReached p questions None = ⊤

-- an asker may give up for this reason: it may stop, or want a thread, or neither; memory may always run out
abbrev pub MayGiveUp : (may_stop may_want_thread : Type 0) → AskStop → Type 0
MayGiveUp may_stop may_want_thread (Stopped reached) = may_stop
MayGiveUp may_stop may_want_thread Memory = ⊤
MayGiveUp may_stop may_want_thread NoThread = may_want_thread

-- if it stops, it tells what it reached
abbrev pub IsTold : Project → List Question → (told : Option (List ℕ)) → AskStop → Type 0
IsTold p questions told (Stopped reached) = (told ≡ reached) × IsReached p questions reached
IsTold p questions told Memory = ⊤
IsTold p questions told NoThread = ⊤

-- why the first yes is not known: a reason for which the asker may give up, and what it tells
abbrev pub IsStop : Project → List Question → (told : Option (List ℕ)) →
    (may_stop may_want_thread : Type 0) → AskStop → Type 0
IsStop p questions told may_stop may_want_thread stop =
    MayGiveUp may_stop may_want_thread stop × IsTold p questions told stop

-- if a search of one question is stopped, nothing is told
abbrev pub IsUntold : (told : Option (List ℕ)) → AskStop → Type 0
IsUntold told (Stopped reached) = told ≡ None
IsUntold told Memory = ⊤
IsUntold told NoThread = ⊤

-- why one question is not decided: a reason for which the asker may give up
abbrev pub IsProbeStop : (told : Option (List ℕ)) → (may_stop may_want_thread : Type 0) → AskStop → Type 0
IsProbeStop told may_stop may_want_thread stop = MayGiveUp may_stop may_want_thread stop × IsUntold told stop
