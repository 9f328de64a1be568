-- What a run of a desk tells an asker.
use Rattle.std.proofs.Common.{◌≡◌, ◌⊎◌, inl, inr, ℕ, zero, suc, ◌+◌, ◌≤◌, Bool, true, false, List, [], ◌∷◌, length, Option, Some, None, Result, Ok, Err, IfOk, IfErr, refl, sym, subst, arith}
use Rattle.std.proofs.lemmas.Bool.{false≢true}
use Rattle.std.proofs.lemmas.List.Elements.{Contains-append_cases, Contains-push_cases}
use Rattle.std.specs.Option.{ForSome}
use Rattle.std.specs.Prelude.{◌↔◌, ⊤, Contains, IsTrue, option_map}
use Rattle.racp_model.specs.Formed.{AreFormed, IsFormed}
use Rattle.racp_model.specs.Project.{Project}
use Rattle.racp_model.specs.declared.question.Question.{Question}
use Rattle.racp_questions.specs.FirstYes.{IsFirst, IsStop, IsReached, IsProbed, IsProbeStop}
use Rattle.racp_questions.specs.declared.asker.First.{First}
use Rattle.racp_questions.specs.declared.asker.AskStop.{AskStop}
use Rattle.racp_questions.specs.declared.asker.AskStop.TheVariants.{Stopped, Memory, NoThread}
use Rattle.racp_core.specs.Replies.{IsOutcomeKnown}
use Rattle.racp_core.specs.declared.replies.Outcome.{Outcome}
use Rattle.racp_core.specs.declared.replies.Outcome.TheVariants.{First as FirstOutcome, NoYes, Open}
use Rattle.racp_desk.specs.declared.log.Cause.{Cause}
use Rattle.racp_desk.specs.declared.log.Entry.{Entry}
use Rattle.racp_desk.specs.declared.closed.Closed.{Closed}
use Rattle.racp_desk.specs.Log.{tally}
use Rattle.racp_desk.specs.Closing.{IsRunClosed, IsOpenFor, IsEnding}
use Rattle.racp_desk.proofs.lemmas.Legal.{HasCause, IsWithin, legal_within, stopped_unquiet}
use Rattle.racp_by_questions.specs.Crowds.{IsFirstBy, IsLeftOpen, IsAnsweredBy, IsOver, behind, probe_by}

-- what is known of the log of a run
within : (p : Project) (questions : List Question) (turns : ℕ) (quiet : Bool) (closed : Closed) → IsRunClosed p questions turns quiet closed → IsWithin turns quiet (tally closed.log.items)
within p questions turns quiet closed h = legal_within turns quiet closed.log.items h.closed_is.legal

-- no more pieces than turns were taken
pub pieces_few : (p : Project) (questions : List Question) (turns : ℕ) (quiet : Bool) (closed : Closed) → IsRunClosed p questions turns quiet closed → closed.pieces ≤ turns
pieces_few p questions turns quiet closed h = (let w = (within p questions turns quiet closed h).few in let e = h.closed_is.pieces in omega (arith, w, e))

-- where the answer is open no turn is left, or the stop is not quiet
ending : (p : Project) (questions : List Question) (turns left : ℕ) (quiet : Bool) (closed : Closed) → IsRunClosed p questions turns quiet closed → left + closed.pieces ≡ turns →
    IsEnding (tally closed.log.items).halt → (left ≡ 0) ⊎ (quiet ≡ false)
ending p questions turns left quiet closed h sum (inl stop) =
    let w = (within p questions turns quiet closed h).cause in
    inr (subst (λ (c : Option Cause). HasCause turns quiet (length (tally closed.log.items).taken) c) stop w)
ending p questions turns left quiet closed h sum (inr out) =
    let w = (within p questions turns quiet closed h).cause in
    let all = subst (λ (c : Option Cause). HasCause turns quiet (length (tally closed.log.items).taken) c) out w in
    let e = h.closed_is.pieces in
    inl (omega (arith, sum, e, all))

open_ending : (p : Project) (questions : List Question) (turns left : ℕ) (quiet : Bool) (closed : Closed) (outcome : Outcome) → IsRunClosed p questions turns quiet closed →
    left + closed.pieces ≡ turns → IsOpenFor (tally closed.log.items) outcome → IsLeftOpen outcome → (left ≡ 0) ⊎ (quiet ≡ false)
open_ending p questions turns left quiet closed (Open index) h sum since left_open = ending p questions turns left quiet closed h sum since
open_ending p questions turns left quiet closed (FirstOutcome index starts) h sum since left_open = absurd left_open
open_ending p questions turns left quiet closed NoYes h sum since left_open = absurd left_open

-- the first yes that a run tells
first_known : (p : Project) (questions : List Question) (outcome : Outcome) (first : First) → IsOutcomeKnown p questions outcome → IsFirstBy outcome first → IsFirst p questions first
first_known p questions (FirstOutcome index starts) first known is = subst (IsFirst p questions) (sym is) known
first_known p questions NoYes first known is = subst (IsFirst p questions) (sym is) known
first_known p questions (Open index) first known is = absurd is

pub answer_right : (p n : Project) (questions : List Question) (turns : ℕ) (quiet : Bool) (closed : Closed) (told : Option (List ℕ)) (result : Result First AskStop) → p ≡ n →
    IsRunClosed n questions turns quiet closed → IsAnsweredBy closed told result → IfOk result (IsFirst p questions)
answer_right p n questions turns quiet closed told (Ok first) same h is = subst (λ (q : Project). IsFirst q questions first) (sym same) (first_known n questions closed.outcome first h.closed_is.known is)
answer_right p n questions turns quiet closed told (Err stop) same h is = tt

pub stop_right : (p n : Project) (questions : List Question) (turns left : ℕ) (quiet : Bool) (closed : Closed) (told : Option (List ℕ)) (result : Result First AskStop) → p ≡ n →
    IsRunClosed n questions turns quiet closed → left + closed.pieces ≡ turns → IsAnsweredBy closed told result → IfErr result (IsStop p questions told ((left ≡ 0) ⊎ (quiet ≡ false)) ⊤)
stop_right p n questions turns left quiet closed told (Ok first) same h sum is = tt
stop_right p n questions turns left quiet closed told (Err (Stopped reached)) same h sum is =
    let known : IsReached n questions reached = subst (IsReached n questions) (sym is.1) h.closed_is.reached in
    (open_ending n questions turns left quiet closed closed.outcome h sum h.open_for is.0, (is.2, subst (λ (q : Project). IsReached q questions reached) (sym same) known))
stop_right p n questions turns left quiet closed told (Err Memory) same h sum is = (tt, tt)
stop_right p n questions turns left quiet closed told (Err NoThread) same h sum is = absurd is

-- what a run about a question and about those behind it tells of it
probed_by : (p : Project) (question : Question) (behind : List Question) (most : Option ℕ) (left : ℕ) (log : List Entry) (outcome : Outcome) (is_over : Bool) → IsOutcomeKnown p (question ∷ behind) outcome →
    (IsTrue is_over ↔ IsOver most left log) →
    IfOk (probe_by outcome is_over) (IsProbed p question most)
probed_by p question behind most left log (FirstOutcome zero starts) is_over known over = known.1
probed_by p question behind most left log (FirstOutcome (suc index) starts) is_over known over = known.0.2 0 (omega arith)
probed_by p question behind most left log NoYes is_over known over = known 0 (omega arith)
probed_by p question behind most left log (Open (suc index)) is_over known over = known 0 (omega arith)
probed_by p question behind most left log (Open zero) true known over = tt
probed_by p question behind most left log (Open zero) false known over = λ none. absurd (false≢true (over.1 (inl none)))

pub probe_right : (p n : Project) (question : Question) (behind questions : List Question) (most : Option ℕ) (turns left : ℕ) (quiet : Bool) (closed : Closed) (is_over : Bool) → p ≡ n →
    questions ≡ question ∷ behind → IsRunClosed n questions turns quiet closed → (IsTrue is_over ↔ IsOver most left closed.log.items) → IfOk (probe_by closed.outcome is_over) (IsProbed p question most)
probe_right p n question behind questions most turns left quiet closed is_over same listed h over =
    let known : IsOutcomeKnown n (question ∷ behind) closed.outcome = subst (λ (qs : List Question). IsOutcomeKnown n qs closed.outcome) listed h.closed_is.known in
    probed_by p question behind most left closed.log.items closed.outcome is_over (subst (λ (q : Project). IsOutcomeKnown q (question ∷ behind) closed.outcome) (sym same) known) over

over_ending : (n : Project) (questions : List Question) (most : Option ℕ) (turns before left : ℕ) (quiet : Bool) (closed : Closed) (outcome : Outcome) →
    IsRunClosed n questions turns quiet closed → left + closed.pieces ≡ before → (most ≡ None → turns ≡ before) → IsOpenFor (tally closed.log.items) outcome → IsLeftOpen outcome →
    IsOver most left closed.log.items → (left ≡ 0) ⊎ (quiet ≡ false)
over_ending n questions most turns before left quiet closed outcome h sum all since left_open (inl none) =
    let whole = all none in
    open_ending n questions turns left quiet closed outcome h (omega (arith, sum, whole)) since left_open
over_ending n questions most turns before left quiet closed outcome h sum all since left_open (inr (inl ends)) = inl ends
over_ending n questions most turns before left quiet closed outcome h sum all since left_open (inr (inr stopped)) = inr (stopped_unquiet turns quiet closed.log.items h.closed_is.legal stopped)

probe_ends : (n : Project) (questions : List Question) (most : Option ℕ) (turns before left : ℕ) (quiet : Bool) (closed : Closed) (outcome : Outcome) (is_over : Bool)
    (told : Option (List ℕ)) → IsRunClosed n questions turns quiet closed → left + closed.pieces ≡ before → (most ≡ None → turns ≡ before) → IsOpenFor (tally closed.log.items) outcome →
    (IsTrue is_over ↔ IsOver most left closed.log.items) → told ≡ None → IfErr (probe_by outcome is_over) (IsProbeStop told ((left ≡ 0) ⊎ (quiet ≡ false)) ⊤)
probe_ends n questions most turns before left quiet closed (FirstOutcome zero starts) is_over told h sum all since over untold = tt
probe_ends n questions most turns before left quiet closed (FirstOutcome (suc index) starts) is_over told h sum all since over untold = tt
probe_ends n questions most turns before left quiet closed NoYes is_over told h sum all since over untold = tt
probe_ends n questions most turns before left quiet closed (Open (suc index)) is_over told h sum all since over untold = tt
probe_ends n questions most turns before left quiet closed (Open zero) true told h sum all since over untold =
    (over_ending n questions most turns before left quiet closed (Open zero) h sum all since tt (over.0 refl), untold)
probe_ends n questions most turns before left quiet closed (Open zero) false told h sum all since over untold = tt

pub probe_stop_right : (n : Project) (questions : List Question) (most : Option ℕ) (turns before left : ℕ) (quiet : Bool) (closed : Closed) (is_over : Bool) (told : Option (List ℕ)) →
    IsRunClosed n questions turns quiet closed → left + closed.pieces ≡ before → (most ≡ None → turns ≡ before) → (IsTrue is_over ↔ IsOver most left closed.log.items) →
    told ≡ None → IfErr (probe_by closed.outcome is_over) (IsProbeStop told ((left ≡ 0) ⊎ (quiet ≡ false)) ⊤)
probe_stop_right n questions most turns before left quiet closed is_over told h sum all over untold =
    probe_ends n questions most turns before left quiet closed closed.outcome is_over told h sum all h.open_for over untold

-- a question and those behind it are of the project's form
formed_cons : (p : Project) (question : Question) (behind : List Question) → IsFormed p question → AreFormed p behind → AreFormed p (question ∷ behind)
formed_cons p question behind formed all other h =
    elim (Contains-append_cases (question ∷ []) behind other h) [
      | inl first ↦ subst (IsFormed p) (is_first first) formed
      | inr later ↦ all other later
    ]
  where
    is_first : Contains (question ∷ []) other → question ≡ other
    is_first first = elim (Contains-push_cases [] question other first) [ inl none ↦ absurd (omega (arith, none.1)) | inr same ↦ same ]

pub formed_with : {T : Type 0} → (p : Project) (question : Question) (ahead : Option T) (items : T → List Question) → IsFormed p question → ForSome ahead (λ list. AreFormed p (items list)) →
    AreFormed p (question ∷ behind (option_map items ahead))
formed_with p question (Some list) items formed all = formed_cons p question (items list) formed (all list refl)
formed_with p question None items formed all = formed_cons p question [] formed (λ other none. absurd (omega (arith, none.1)))
