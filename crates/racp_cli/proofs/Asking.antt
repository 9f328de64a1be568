-- What is told of an order with one term changed: if memory ran out, or the plan of the order was not made.
use Rattle.std.proofs.Common.{ℕ, Bool, List, Option, Some, None, inl, inr, refl, sym}
use Rattle.racp_model.specs.Project.{Project}
use Rattle.racp_model.specs.Terms.{Terms}
use Rattle.racp_lexfix.specs.Printing.{IsCrowdStop}
use Rattle.racp_by_questions.specs.declared.stop.PlanStop.{PlanStop}
use Rattle.racp_by_questions.specs.declared.stop.PlanStop.TheVariants.{Stopped, Memory, NoThread}
use Rattle.racp_cli.specs.Responses.{IsStopTold}
use Rattle.racp_cli.specs.Texts.{memory_line}
use Rattle.racp_cli.specs.WhatIfAnswers.{IsBesideOwn, IsWhatIfAnswer}
use Rattle.racp_cli.specs.declared.check_fault.CheckFault.TheVariants.{OutOfMemory}

-- memory may run out at any texts
pub memory_right : (turns : ℕ) (quiet is_json : Bool) (net order : List ℕ) (plan : Option (List ℕ)) (names : List ℕ) → IsWhatIfAnswer turns quiet is_json net order plan names 6 memory_line
memory_right turns quiet is_json net order None names = inr (inr (inr (refl, refl)))
memory_right turns quiet is_json net order (Some plan) names = inr (record { fault = OutOfMemory; right = tt; with_status = refl; with_text = refl })

-- what is written where planning ended early
pub stop_beside : (turns : ℕ) (quiet is_json : Bool) (network : Project) (terms : Terms) (names : List (List ℕ)) (stop : PlanStop) (status : ℕ) (text : List ℕ) → IsCrowdStop turns quiet network terms stop → IsStopTold stop status text →
    IsBesideOwn turns quiet is_json network terms names status text
stop_beside turns quiet is_json network terms names (Stopped not_before) status text end told = inr (inr (inl (record { not_before = not_before; may_stop = end.0; none = end.1; floors = end.2; with_status = sym told.0; with_text = sym told.1 })))
stop_beside turns quiet is_json network terms names Memory status text end told = absurd told
stop_beside turns quiet is_json network terms names NoThread status text end told = inr (inr (inr (sym told.0, sym told.1)))
