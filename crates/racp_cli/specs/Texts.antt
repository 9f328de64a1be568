-- The lines that are written, in ASCII. Each ends with a line feed; numbers are decimal, without leading zeros.
use Rattle.std.specs.Prelude.{ℕ, List, ◌++◌, codes}
use Rattle.std.specs.Fmt.{decimal}
use Rattle.racp_sm.specs.Faults.{fault_number, fault_name, SmFault}
use Rattle.racp_prices.specs.Faults.{fault_number as order_fault_number, fault_name as order_fault_name}
use Rattle.racp_prices.specs.declared.fault.OrderFault.{OrderFault}
use Rattle.racp_plan.specs.Texts.{line, critical_line, start_lines}
use Rattle.racp_plan.specs.TextFaults.{fault_number as text_fault_number, fault_name as text_fault_name, TextFault}
use Rattle.racp_curve.specs.Texts.{spaced}
use Rattle.racp_check.specs.declared.plan_fault.PlanFault.{PlanFault}
use Rattle.racp_check.specs.declared.plan_fault.PlanFault.TheVariants.{Cost, Late, Order, Over, Ceiling, Early}

-- the critical length, the start of each job from 1 on, and a last line
unfoldable pub early_text : ℕ → List ℕ → List ℕ
early_text critical starts = critical_line critical ++ start_lines 1 starts ++ line (codes "end")

-- `refused sm N Name line L`
unfoldable pub refusal_line : SmFault → List ℕ
refusal_line fault = line (codes "refused sm " ++ decimal (fault_number fault.kind) ++ codes " " ++
    fault_name fault.kind ++ codes " line " ++ decimal fault.line)

-- `refused order N Name`
unfoldable pub order_refusal_line : OrderFault → List ℕ
order_refusal_line fault = line (codes "refused order " ++ decimal (order_fault_number fault) ++ codes " " ++
    order_fault_name fault)

-- `refused plan N Name line L`
unfoldable pub plan_refusal_line : TextFault → List ℕ
plan_refusal_line fault = line (codes "refused plan " ++ decimal (text_fault_number fault.kind) ++ codes " " ++
    text_fault_name fault.kind ++ codes " line " ++ decimal fault.line)

-- `stopped a1 a2 ..`, with the capacity of each resource
unfoldable pub stopped_line : List ℕ → List ℕ
stopped_line capacities = line (codes "stopped" ++ spaced capacities)

-- what is written if a worker could not be started
unfoldable pub no_thread_line : List ℕ
no_thread_line = line (codes "no thread")

-- what is written if memory ran out
unfoldable pub memory_line : List ℕ
memory_line = line (codes "memory")

-- what is written if nothing is wrong with a plan
unfoldable pub ok_line : List ℕ
ok_line = line (codes "ok")

-- what is written if a text is a certificate for a plan, and if it is none
unfoldable pub verified_line : List ℕ
verified_line = line (codes "verified")

unfoldable pub unproved_line : List ℕ
unproved_line = line (codes "unproved")

-- `at least N`: what is written if a text is a certificate of a bound
unfoldable pub at_least_line : ℕ → List ℕ
at_least_line least = line (codes "at least " ++ decimal least)

-- what is written if a plan names another deadline than the order, or another critical length than the project has
unfoldable pub head_line : List ℕ
head_line = line (codes "fault head")

-- what is written of a fault of a plan
unfoldable pub plan_fault_line : PlanFault → List ℕ
plan_fault_line Cost = line (codes "fault cost")
plan_fault_line (Late job) = line (codes "fault late " ++ decimal job)
plan_fault_line (Order before after) = line (codes "fault order " ++ decimal before ++ codes " " ++ decimal after)
plan_fault_line (Over resource time) = line (codes "fault over " ++ decimal resource ++ codes " " ++ decimal time)
plan_fault_line (Ceiling resource) = line (codes "fault ceiling " ++ decimal resource)
plan_fault_line (Early job) = line (codes "fault early " ++ decimal job)
