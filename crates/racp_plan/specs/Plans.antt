-- The plan of an order, with all that is told of it.
use Rattle.std.specs.Prelude.{◌≡◌}
use Rattle.racp_model.specs.Project.{Project}
use Rattle.racp_model.specs.Path.{IsCriticalLength}
use Rattle.racp_model.specs.Terms.{Terms, release_of, cost}
use Rattle.racp_model.specs.Plan.{IsPlan}
use Rattle.racp_plan.specs.declared.plan.Plan.{Plan}

-- the plan of an order, with the order's deadline, the critical length of the project, and what it costs
pub record IsPlanOf (p : Project) (terms : Terms) (plan : Plan) : Type 0 where
  pub is_plan : IsPlan p terms plan.capacities plan.starts
  pub deadline : plan.deadline ≡ terms.deadline
  pub cost : plan.cost ≡ cost terms plan.capacities
  pub critical : IsCriticalLength p (release_of terms) plan.critical
