use Rattle.std.proofs.Common.{◌∙◌, length, ap}
use Rattle.racp_model.specs.Terms.{Terms, cost}
use Rattle.racp_lexfix.proofs.answer.plan_of.Goals as goal

pub cost_of-cost-requires-clause-capacities : goal.cost_of-cost-requires-clause-capacities
cost_of-cost-requires-clause-capacities c = ap length c.as_slice.ensures ∙ c.requires.plan.vector.is.places

pub returns : goal.returns
returns c = record {
  is_plan = c.requires.plan;
  deadline = ap (λ (terms : Terms). terms.deadline) c.order.view_is;
  cost = c.cost_of-cost.ensures ∙ ap (cost c.args.task.now.order.now) c.as_slice.ensures;
  critical = c.requires.critical;
}
