-- What a report says of a plan.
use Rattle.std.specs.Prelude.{◌≡◌, ℕ, List}
use Rattle.racp_model.specs.Project.{Project}
use Rattle.racp_model.specs.Terms.{Terms}
use Rattle.racp_plan.specs.declared.plan.Plan.{Plan}
use Rattle.racp_json.specs.Curves.{AreStepsIn}
use Rattle.racp_show.specs.Outlines.{Outlined}
use Rattle.racp_charts.specs.Choices.{IsDrawing}
use Rattle.racp_report.specs.Claims.{IsClaim}
use Rattle.racp_report.specs.declared.claim.Claim.{Claim}
use Rattle.racp_report.specs.declared.report.Report.{Report}

-- what a page says of a plan, for the text of a curve, the lines of changes and a claim: what is drawn of it, the steps of the
-- curve, these lines, and the claim, which is true of the plan
pub record IsReport (p : Project) (terms : Terms) (plan : Plan) (names : List (List ℕ)) (outline : Outlined)
    (curve changes : List ℕ) (claim : Claim) (report : Report) : Type 0 where
  pub right : IsDrawing p terms plan names outline report.plan
  pub all_costs : AreStepsIn curve report.costs.items
  pub same_changes : report.changes.now ≡ changes
  pub same_claim : report.claim ≡ claim
  pub shown : IsClaim p terms plan claim
