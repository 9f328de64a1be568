-- Laws of the check of a plan. Each is the contract of a public function.
use Rattle.std.specs.Prelude.{◌≡◌, ◌↔◌, ⊤, Result, Ok}
use Rattle.racp_model.specs.Project.{Project}
use Rattle.racp_model.specs.Terms.{Terms}
use Rattle.racp_model.specs.Plan.{IsPlan}
use Rattle.racp_plan.specs.declared.plan.Plan.{Plan}
use Rattle.racp_check.specs.declared.plan_fault.PlanFault.{PlanFault}
use Rattle.racp_check.specs.PlanFaults.{HasRightCost, IsFitting, IsChecked}

-- a fault is answered only if one is there: the check says yes exactly if nothing is wrong
abbrev pub YesIsFitting : Type 0
YesIsFitting =
    (p : Project) (terms : Terms) (plan : Plan) (answer : Result ⊤ PlanFault) → IsChecked p terms plan answer →
    (answer ≡ Ok tt) ↔ IsFitting p terms plan

-- nothing is wrong with the plan of an order
abbrev pub PlanIsFitting : Type 0
PlanIsFitting =
    (p : Project) (terms : Terms) (plan : Plan) → IsPlan p terms plan.capacities plan.starts → HasRightCost terms plan →
    IsFitting p terms plan

-- the check answers one thing of a plan
abbrev pub AnswerIsOne : Type 0
AnswerIsOne =
    (p : Project) (terms : Terms) (plan : Plan) (one other : Result ⊤ PlanFault) →
    IsChecked p terms plan one → IsChecked p terms plan other → one ≡ other
