-- Contracts of private functions: faults of texts as those of `check` or as answers, and answers that were made or for which
-- memory was refused.
use Rattle.std.specs.Prelude.{◌≡◌, ◌≢◌, ◌⊎◌, ℕ, List, Result, Ok, Err, Vec}
use Rattle.std.specs.declared.alloc.AllocError.{AllocError}
use Rattle.std.specs.declared.alloc.Global.{Global}
use Rattle.racp_sm.specs.Faults.{SmFault}
use Rattle.racp_sm.specs.declared.fault.SmFaultKind.TheVariants as network
use Rattle.racp_prices.specs.declared.fault.OrderFault.{OrderFault}
use Rattle.racp_prices.specs.declared.fault.OrderFault.TheVariants as order
use Rattle.racp_plan.specs.TextFaults.{TextFault}
use Rattle.racp_plan.specs.declared.text_fault.TextFaultKind.TheVariants as plan
use Rattle.racp_by_questions.specs.declared.stop.PlanStop.{PlanStop}
use Rattle.racp_by_questions.specs.declared.stop.PlanStop.TheVariants.{Stopped, Memory as MemoryIs, NoThread}
use Rattle.racp_lexfix.specs.declared.printed.Refusal.{Refusal}
use Rattle.racp_lexfix.specs.declared.printed.Refusal.TheVariants.{Sm, Order as OrderIs, Stop}
use Rattle.racp_curve.specs.declared.step.Step.{Step}
use Rattle.racp_cli.specs.CurveAnswers.{stopped_text}
use Rattle.racp_cli.specs.Plans.{IsNetworkLine, IsOrderLine}
use Rattle.racp_cli.specs.Texts.{refusal_line, order_refusal_line, memory_line, stopped_line, no_thread_line}
use Rattle.racp_cli.specs.declared.check_fault.CheckFault.{CheckFault}
use Rattle.racp_cli.specs.declared.check_fault.CheckFault.TheVariants.{Network, Order, PlanText, OutOfMemory}
use Rattle.racp_cli.specs.declared.curve.CurveForm.{CurveForm}

-- the fault of a text, or that memory ran out while it was read
abbrev pub IsOfNetwork : SmFault → CheckFault → Type 0
IsOfNetwork error fault = ((error.kind ≡ network.Memory) × (fault ≡ OutOfMemory)) ⊎
    ((error.kind ≢ network.Memory) × (fault ≡ Network error))

abbrev pub IsOfOrder : OrderFault → CheckFault → Type 0
IsOfOrder error fault = ((error ≡ order.Memory) × (fault ≡ OutOfMemory)) ⊎
    ((error ≢ order.Memory) × (fault ≡ Order error))

abbrev pub IsOfPlanText : TextFault → CheckFault → Type 0
IsOfPlanText error fault = ((error.kind ≡ plan.Memory) × (fault ≡ OutOfMemory)) ⊎
    ((error.kind ≢ plan.Memory) × (fault ≡ PlanText error))

-- the status and the line of the fault of a text, if that is not that memory ran out
abbrev pub IsNetworkRefused : SmFault → ℕ → List ℕ → Type 0
IsNetworkRefused fault status text = (fault.kind ≢ network.Memory) × (5 ≡ status) × (refusal_line fault ≡ text)

abbrev pub IsOrderRefused : OrderFault → ℕ → List ℕ → Type 0
IsOrderRefused fault status text = (fault ≢ order.Memory) × (5 ≡ status) × (order_refusal_line fault ≡ text)

-- the status and the text if there is no answer, but not if memory ran out
abbrev pub IsRefusedLine : Refusal → ℕ → List ℕ → Type 0
IsRefusedLine (Sm fault) status text = IsNetworkRefused fault status text
IsRefusedLine (OrderIs fault) status text = IsOrderRefused fault status text
IsRefusedLine (Stop (Stopped not_before)) status text = (4 ≡ status) × (stopped_line not_before ≡ text)
IsRefusedLine (Stop MemoryIs) status text = ⊥
IsRefusedLine (Stop NoThread) status text = (7 ≡ status) × (no_thread_line ≡ text)

-- the status and the line of the first of two texts that is refused
abbrev pub IsRefusedText : List ℕ → List ℕ → ℕ → List ℕ → Type 0
IsRefusedText net order status text = IsNetworkLine net status text ⊎ IsOrderLine net order status text

-- the status and the text if following a curve ended early with these steps, but not if memory ran out
abbrev pub IsEndedText : CurveForm → List Step → PlanStop → ℕ → List ℕ → Type 0
IsEndedText form steps (Stopped not_before) status text = (4 ≡ status) × (stopped_text form steps not_before ≡ text)
IsEndedText form steps MemoryIs status text = ⊥
IsEndedText form steps NoThread status text = (7 ≡ status) × (no_thread_line ≡ text)

-- the status and the line if the plan of an order was not made, but not if memory ran out
abbrev pub IsStopTold : PlanStop → ℕ → List ℕ → Type 0
IsStopTold (Stopped not_before) status text = (4 ≡ status) × (stopped_line not_before ≡ text)
IsStopTold MemoryIs status text = ⊥
IsStopTold NoThread status text = (7 ≡ status) × (no_thread_line ≡ text)

-- the status and the text of an answer, or those of lack of memory if it could not be made
abbrev pub IsMade : Result (ℕ × Vec ℕ Global) AllocError → ℕ → List ℕ → Type 0
IsMade (Ok made) status text = (made.0 ≡ status) × (made.1.items ≡ text)
IsMade (Err _) status text = (6 ≡ status) × (memory_line ≡ text)
