-- From a plan text that is refused, and from a plan that is wrong, to what is right for the texts.
use Rattle.std.proofs.Common.{ℕ, List, Err, inl, inr, ap, sym, subst}
use Rattle.racp_model.specs.Project.{Project}
use Rattle.racp_model.specs.Terms.{Terms}
use Rattle.racp_plan.specs.PlanReading.{IsPlanReadingOrMemory}
use Rattle.racp_plan.specs.TextFaults.{TextFault}
use Rattle.racp_lexfix.specs.Printing.{AreTextsOf}
use Rattle.racp_plan.specs.declared.plan.Plan.{Plan}
use Rattle.racp_cli.specs.Checks.{AreRead, IsCheck, IsCheckOf}
use Rattle.racp_cli.specs.Responses.{IsOfPlanText}
use Rattle.racp_cli.specs.declared.check_fault.CheckFault.{CheckFault}
use Rattle.racp_cli.specs.declared.check_fault.CheckFault.TheVariants.{Network, Order, PlanText, OutOfMemory, Head, Wrong}

-- the plan text is refused, or memory ran out
pub plan_refused : (net order text : List ℕ) (network : Project) (terms : Terms) (error : TextFault) (fault : CheckFault) → AreTextsOf net order network terms →
    IsPlanReadingOrMemory network text (Err error) → IsOfPlanText error fault → IsCheck net order text (Err fault)
plan_refused net order text network terms error fault are read (inl (kind, is)) = subst (λ f. IsCheck net order text (Err f)) (sym is) tt
plan_refused net order text network terms error fault are (inr (plan, planned, memory)) (inr (other, is)) = absurd (other (ap (λ (f : TextFault). f.kind) memory))
plan_refused net order text network terms error fault are (inl read) (inr (other, is)) = subst (λ f. IsCheck net order text (Err f)) (sym is) (network, terms, are, read)

-- something is wrong with the plan that was read
pub plan_wrong : (net order text : List ℕ) (network : Project) (terms : Terms) (plan : Plan) (fault : CheckFault) → AreRead net order text network terms plan →
    IsCheckOf network terms plan (Err fault) → IsCheck net order text (Err fault)
plan_wrong net order text network terms plan (Network other) read none = absurd none
plan_wrong net order text network terms plan (Order other) read none = absurd none
plan_wrong net order text network terms plan (PlanText other) read none = absurd none
plan_wrong net order text network terms plan OutOfMemory read memory = tt
plan_wrong net order text network terms plan Head read wrong = (network, terms, plan, read, wrong)
plan_wrong net order text network terms plan (Wrong other) read (head, checked) = (network, terms, plan, read, head, checked)
