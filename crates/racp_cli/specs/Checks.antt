-- What `check` answers to the texts of a network, an order and a plan.
use Rattle.std.specs.Prelude.{◌≡◌, ℕ, List, length, ⊤, Result, Ok, Err}
use Rattle.racp_model.specs.Project.{Project}
use Rattle.racp_model.specs.Path.{IsCriticalLength}
use Rattle.racp_model.specs.Terms.{Terms, release_of}
use Rattle.racp_sm.specs.Reading.{IsReading}
use Rattle.racp_prices.specs.Orders.{IsOrder}
use Rattle.racp_plan.specs.PlanReading.{IsPlanReading}
use Rattle.racp_check.specs.PlanFaults.{IsChecked}
use Rattle.racp_plan.specs.declared.plan.Plan.{Plan}
use Rattle.racp_lexfix.specs.Printing.{AreTextsOf}
use Rattle.racp_cli.specs.Texts.{refusal_line, order_refusal_line, plan_refusal_line, memory_line, ok_line, head_line, plan_fault_line}
use Rattle.racp_cli.specs.declared.check_fault.CheckFault.{CheckFault}
use Rattle.racp_cli.specs.declared.check_fault.CheckFault.TheVariants.{Network, Order, PlanText, OutOfMemory, Head, Wrong}

-- the texts are read as a network, an order for it and a plan of it
pub record AreRead (net order text : List ℕ) (network : Project) (terms : Terms) (plan : Plan) : Type 0 where
  pub are_terms : AreTextsOf net order network terms
  pub is_plan : IsPlanReading network text (Ok plan)

-- the plan names the order's deadline and the project's critical length
pub record HasRightHead (network : Project) (terms : Terms) (plan : Plan) : Type 0 where
  pub deadline : plan.deadline ≡ terms.deadline
  pub critical : IsCriticalLength network (release_of terms) plan.critical

-- what is right for a plan that was read: that nothing is wrong, that its head is wrong, or its first fault; memory may run out
abbrev pub IsCheckOf : Project → Terms → Plan → Result ⊤ CheckFault → Type 0
IsCheckOf network terms plan (Ok _) = HasRightHead network terms plan × IsChecked network terms plan (Ok tt)
IsCheckOf network terms plan (Err Head) = HasRightHead network terms plan → ⊥
IsCheckOf network terms plan (Err (Wrong fault)) = HasRightHead network terms plan × IsChecked network terms plan (Err fault)
IsCheckOf network terms plan (Err OutOfMemory) = Unit {0}
IsCheckOf network terms plan (Err _) = ⊥

-- what is right for the texts of a network, an order and a plan: that nothing is wrong, or the first text that is refused,
-- that the plan's head is wrong, or the first fault of the plan; memory may run out at any texts
abbrev pub IsCheck : List ℕ → List ℕ → List ℕ → Result ⊤ CheckFault → Type 0
IsCheck net order text (Ok _) =
    (network : Project) × (terms : Terms) × (plan : Plan) × AreRead net order text network terms plan ×
    HasRightHead network terms plan × IsChecked network terms plan (Ok tt)
IsCheck net order text (Err (Network fault)) = IsReading net (Err fault)
IsCheck net order text (Err (Order fault)) =
    (network : Project) × IsReading net (Ok network) × IsOrder network.resources (length network.jobs) order (Err fault)
IsCheck net order text (Err (PlanText fault)) =
    (network : Project) × (terms : Terms) × AreTextsOf net order network terms × IsPlanReading network text (Err fault)
IsCheck net order text (Err OutOfMemory) = Unit {0}
IsCheck net order text (Err Head) =
    (network : Project) × (terms : Terms) × (plan : Plan) × AreRead net order text network terms plan ×
    (HasRightHead network terms plan → ⊥)
IsCheck net order text (Err (Wrong fault)) =
    (network : Project) × (terms : Terms) × (plan : Plan) × AreRead net order text network terms plan ×
    HasRightHead network terms plan × IsChecked network terms plan (Err fault)

-- the text that is written
abbrev pub check_text : Result ⊤ CheckFault → List ℕ
check_text (Ok _) = ok_line
check_text (Err (Network fault)) = refusal_line fault
check_text (Err (Order fault)) = order_refusal_line fault
check_text (Err (PlanText fault)) = plan_refusal_line fault
check_text (Err OutOfMemory) = memory_line
check_text (Err Head) = head_line
check_text (Err (Wrong fault)) = plan_fault_line fault

-- the status
abbrev pub check_status : Result ⊤ CheckFault → ℕ
check_status (Ok _) = 0
check_status (Err (Network fault)) = 5
check_status (Err (Order fault)) = 5
check_status (Err (PlanText fault)) = 5
check_status (Err OutOfMemory) = 6
check_status (Err Head) = 8
check_status (Err (Wrong fault)) = 8

-- status and text stand for what is right for the inputs
pub record IsCheckAnswer (net order text : List ℕ) (status : ℕ) (written : List ℕ) : Type 0 where
  pub answer : Result ⊤ CheckFault
  pub right : IsCheck net order text answer
  pub with_status : check_status answer ≡ status
  pub with_text : check_text answer ≡ written
