-- The status of what was searched for is that of an answer.
use Rattle.std.proofs.Common.{◌≡◌, ℕ, Bool, true, List, [], ◌∷◌, Option, Ok, Err, IfOk, inl, inr, subst}
use Rattle.std.specs.Prelude.{Result}
use Rattle.racp_by_questions.specs.declared.crowd.Effort.{Effort}
use Rattle.racp_cli.specs.Crowds.{IsCrowdAnswer, IsCrowdRun}
use Rattle.racp_cli.specs.Plans.{IsPlanAnswer}
use Rattle.racp_cli.specs.Proofs.{IsProofAnswerUntil, IsProofRunUntil}
use Rattle.racp_cli.specs.ClauseProofs.{IsClauseProofAnswer, IsClauseProofRun}
use Rattle.racp_streams.specs.Streams.{IsAnswerWritten, Reader, ToTwo}
use Rattle.racp_cli.specs.Runs.{IsPlanRun}
use Rattle.racp_streams.specs.declared.fault.StreamFault.{StreamFault}
use Rattle.racp_cli.specs.CurveAnswers.{IsCurveAnswer, IsCurveCrowdAnswer, IsCurveCrowdRun, IsCurveRun}
use Rattle.racp_cli.specs.SoonestAnswers.{IsSoonestAnswer}
use Rattle.racp_cli.specs.WhatIfAnswers.{IsWhatIfAnswer}
use Rattle.racp_cli.specs.declared.curve.CurveForm.{CurveForm}
use Rattle.racp_search_commands.specs.Statuses.{IsStatusOfSearch}

-- what a command came to is what it ended with, if its answer was written
pub ended_as : (T E F : Type 0) (P : T → Type 0) (was : Result T E) (now : Result T F) → IfOk now (λ value. was ≡ Ok value) → IfOk was P → IfOk now P
ended_as T E F P was (Ok value) same right = subst (λ (result : Result T E). IfOk result P) same right
ended_as T E F P was (Err fault) same right = tt

-- what one thread answers
on_one_thread : (inputs : List (List ℕ)) (status : ℕ) (text : List ℕ) → ToTwo IsPlanAnswer inputs status text → IsStatusOfSearch status
on_one_thread [] status text answer = absurd answer
on_one_thread (net ∷ []) status text answer = absurd answer
on_one_thread (net ∷ (order ∷ [])) status text answer = inl (0, true, net, order, text, inl answer)
on_one_thread (net ∷ (order ∷ (other ∷ inputs))) status text answer = absurd answer

pub planned_alone : (net order : Reader) (old new : Option (List ℕ)) (result : Result ℕ StreamFault) → IsPlanRun net order old new result → IfOk result IsStatusOfSearch
planned_alone net order old new (Ok status) run = on_one_thread run.0 status run.2.0 run.2.1
planned_alone net order old new (Err fault) run = tt

-- what workers answer
of_crowd : (turns : ℕ) (quiet : Bool) (inputs : List (List ℕ)) (status : ℕ) (text : List ℕ) → ToTwo (IsCrowdAnswer turns quiet) inputs status text → IsStatusOfSearch status
of_crowd turns quiet [] status text answer = absurd answer
of_crowd turns quiet (net ∷ []) status text answer = absurd answer
of_crowd turns quiet (net ∷ (order ∷ [])) status text answer = inl (turns, quiet, net, order, text, answer)
of_crowd turns quiet (net ∷ (order ∷ (other ∷ inputs))) status text answer = absurd answer

pub planned_by : (turns : ℕ) (quiet : Bool) (net order : Reader) (old new : Option (List ℕ)) (result : Result (ℕ × Option Effort) StreamFault) → IsCrowdRun turns quiet net order old new result → IfOk result (λ done. IsStatusOfSearch done.0)
planned_by turns quiet net order old new (Ok done) run = of_crowd turns quiet run.0 done.0 run.2.0 run.2.1
planned_by turns quiet net order old new (Err fault) run = tt

-- what is answered with a certificate, or where there is none
with_certificate : (quiet : Bool) (inputs : List (List ℕ)) (status : ℕ) (text : List ℕ) → ToTwo (IsProofAnswerUntil quiet) inputs status text → IsStatusOfSearch status
with_certificate quiet [] status text answer = absurd answer
with_certificate quiet (net ∷ []) status text answer = absurd answer
with_certificate quiet (net ∷ (order ∷ [])) status text answer = inr (inl (quiet, net, order, text, inl answer))
with_certificate quiet (net ∷ (order ∷ (other ∷ inputs))) status text answer = absurd answer

pub proved_by_trees : (quiet : Bool) (net order : Reader) (old new : Option (List ℕ)) (result : Result ℕ StreamFault) → IsProofRunUntil quiet net order old new result → IfOk result IsStatusOfSearch
proved_by_trees quiet net order old new (Ok status) run = with_certificate quiet run.0 status run.2.0 run.2.1
proved_by_trees quiet net order old new (Err fault) run = tt

-- the same with one by clauses
with_clauses : (inputs : List (List ℕ)) (status : ℕ) (text : List ℕ) → ToTwo IsClauseProofAnswer inputs status text → IsStatusOfSearch status
with_clauses [] status text answer = absurd answer
with_clauses (net ∷ []) status text answer = absurd answer
with_clauses (net ∷ (order ∷ [])) status text answer = inr (inl (true, net, order, text, inr answer))
with_clauses (net ∷ (order ∷ (other ∷ inputs))) status text answer = absurd answer

pub proved_by_clauses : (net order : Reader) (old new : Option (List ℕ)) (result : Result ℕ StreamFault) → IsClauseProofRun net order old new result → IfOk result IsStatusOfSearch
proved_by_clauses net order old new (Ok status) run = with_clauses run.0 status run.2.0 run.2.1
proved_by_clauses net order old new (Err fault) run = tt

-- what one thread tells of deadlines is what workers may tell
told_alone : (turns : ℕ) (quiet : Bool) (form : CurveForm) (net order : List ℕ) (status : ℕ) (text : List ℕ) → IsCurveAnswer form net order status text → IsCurveCrowdAnswer turns quiet form net order status text
told_alone turns quiet form net order status text (inl (network, terms, are, told)) = inl (network, terms, are, inl told)
told_alone turns quiet form net order status text (inr other) = inr other

-- what is told of deadlines
of_curve : (turns : ℕ) (quiet : Bool) (form : CurveForm) (inputs : List (List ℕ)) (status : ℕ) (text : List ℕ) → ToTwo (IsCurveCrowdAnswer turns quiet form) inputs status text → IsStatusOfSearch status
of_curve turns quiet form [] status text answer = absurd answer
of_curve turns quiet form (net ∷ []) status text answer = absurd answer
of_curve turns quiet form (net ∷ (order ∷ [])) status text answer = inr (inr (inl (turns, quiet, net, order, text, inl (form, answer))))
of_curve turns quiet form (net ∷ (order ∷ (other ∷ inputs))) status text answer = absurd answer

alone : (turns : ℕ) (quiet : Bool) (form : CurveForm) (inputs : List (List ℕ)) (status : ℕ) (text : List ℕ) → ToTwo (IsCurveAnswer form) inputs status text → ToTwo (IsCurveCrowdAnswer turns quiet form) inputs status text
alone turns quiet form [] status text answer = absurd answer
alone turns quiet form (net ∷ []) status text answer = absurd answer
alone turns quiet form (net ∷ (order ∷ [])) status text answer = told_alone turns quiet form net order status text answer
alone turns quiet form (net ∷ (order ∷ (other ∷ inputs))) status text answer = absurd answer

pub curved : (form : CurveForm) (net order : Reader) (old new : Option (List ℕ)) (result : Result ℕ StreamFault) → IsCurveRun form net order old new result → IfOk result IsStatusOfSearch
curved form net order old new (Ok status) run = of_curve 0 true form run.0 status run.2.0 (alone 0 true form run.0 status run.2.0 run.2.1)
curved form net order old new (Err fault) run = tt

pub curved_by : (turns : ℕ) (quiet : Bool) (form : CurveForm) (net order : Reader) (old new : Option (List ℕ)) (result : Result ℕ StreamFault) → IsCurveCrowdRun turns quiet form net order old new result → IfOk result IsStatusOfSearch
curved_by turns quiet form net order old new (Ok status) run = of_curve turns quiet form run.0 status run.2.0 run.2.1
curved_by turns quiet form net order old new (Err fault) run = tt

-- what is told of an order with one term changed
pub changed_by : (turns : ℕ) (quiet is_json : Bool) (net order : List ℕ) (plan : Option (List ℕ)) (names : List ℕ) (old new : Option (List ℕ)) (result : Result ℕ StreamFault) →
    IsAnswerWritten (IsWhatIfAnswer turns quiet is_json net order plan names) old new result → IfOk result IsStatusOfSearch
changed_by turns quiet is_json net order plan names old new (Ok status) written = inr (inr (inr (inl (turns, quiet, is_json, net, order, plan, names, written.0, written.1))))
changed_by turns quiet is_json net order plan names old new (Err fault) written = tt

-- what is told of a least deadline
pub hastened_by : (turns : ℕ) (quiet : Bool) (net order : List ℕ) (old new : Option (List ℕ)) (result : Result ℕ StreamFault) →
    IsAnswerWritten (IsSoonestAnswer turns quiet net order) old new result → IfOk result IsStatusOfSearch
hastened_by turns quiet net order old new (Ok status) written = inr (inr (inl (turns, quiet, net, order, written.0, inr written.1)))
hastened_by turns quiet net order old new (Err fault) written = tt
