-- Laws of the texts of plans. Each is the contract of a public function.
use Rattle.std.specs.Prelude.{◌≡◌, ◌^◌, ◌<◌, ℕ, All, List, Result, Ok, Err, ◌≢◌, ◌≤◌, ◌+◌, length}
use Rattle.racp_model.specs.Project.{Project, IsWithinLimits}
use Rattle.racp_plan.specs.Texts.{plan_text}
use Rattle.racp_plan.specs.PlanReading.{IsPlanReading, IsReadable}
use Rattle.racp_plan.specs.TextFaults.{TextFault}
use Rattle.racp_plan.specs.declared.text_fault.TextFaultKind.TheVariants.{Memory}
use Rattle.racp_plan.specs.declared.plan.Plan.{Plan}

-- the numbers of a plan fit 64 bits
pub record IsWithin64Bits (plan : Plan) : Type 0 where
  pub deadline : plan.deadline < 2 ^ 64
  pub critical : plan.critical < 2 ^ 64
  pub cost : plan.cost < 2 ^ 64
  pub capacities : All (λ capacity. capacity < 2 ^ 64) plan.capacities
  pub starts : All (λ start. start < 2 ^ 64) plan.starts

-- no two plans share a text
abbrev pub OneTextOnePlan : Type 0
OneTextOnePlan = (a b : Plan) → IsWithin64Bits a → IsWithin64Bits b → plan_text a ≡ plan_text b → a ≡ b

-- for a network within the limits, each text is read as something
abbrev pub TextIsRead : Type 0
TextIsRead =
    (network : Project) (text : List ℕ) → IsWithinLimits network.resources network.jobs →
    (x : Result Plan TextFault) × IsPlanReading network text x

-- and as one thing only
abbrev pub ReadingIsOne : Type 0
ReadingIsOne =
    (network : Project) (text : List ℕ) (x y : Result Plan TextFault) →
    IsWithinLimits network.resources network.jobs →
    IsPlanReading network text x → IsPlanReading network text y → x ≡ y

-- a written plan is read as itself and as nothing else
abbrev pub WrittenIsRead : Type 0
WrittenIsRead =
    (network : Project) (plan : Plan) (x : Result Plan TextFault) →
    IsWithinLimits network.resources network.jobs → IsReadable network plan →
    IsPlanReading network (plan_text plan) x → x ≡ Ok plan

-- a fault of a text is that of a line: of one of those that a plan has, or of the next
abbrev pub FaultHasLine : Type 0
FaultHasLine =
    (network : Project) (text : List ℕ) (fault : TextFault) → IsPlanReading network text (Err fault) →
    (fault.kind ≢ Memory) × (1 ≤ fault.line) × (fault.line ≤ network.resources + length network.jobs + 5)
