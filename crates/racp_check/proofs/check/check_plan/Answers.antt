use Rattle.std.proofs.Common.{◌≡◌, ◌∙◌, ℕ, ◌≤◌, ◌<◌, List, length, slice_index, ap, subst}
use Rattle.racp_model.specs.Project.{number}
use Rattle.racp_model.specs.Schedule.{EndsBy, KeepsPrecedence, IsWithinCapacities}
use Rattle.racp_model.specs.Path.{IsFirstLate}
use Rattle.racp_model.specs.Terms.{release_of, due_of, cost, IsWithinCeilings}
use Rattle.racp_check.specs.PlanFaults.{HasRightCost, IsFirstBroken, IsFirstOver, IsFirstAboveCeiling, IsFirstEarly}
use Rattle.racp_check.proofs.check.check_plan.Goals as goal

pub returns : goal.returns
returns c =
    let p = c.args.net.now in
    let terms = c.args.order.now in
    let capacities : List ℕ = c.args.plan.now.capacities in
    let starts : List ℕ = c.args.plan.now.starts in
    let right : HasRightCost terms c.args.plan.now = c.if-plan-cost_of.false ∙ (c.cost_of.ensures ∙ ap (λ (a : List ℕ). cost terms a) c.as_slice-capacities.ensures) in
    let ends : EndsBy p (due_of terms) starts = subst (λ (s : List ℕ). EndsBy p (due_of terms) s) c.as_slice-starts.ensures c.in_default.ensures in
    let keeps : KeepsPrecedence p starts = subst (λ (s : List ℕ). KeepsPrecedence p s) c.as_slice-starts.ensures c.in_default-first_broken.ensures in
    let within : IsWithinCapacities p capacities starts =
    subst (λ (s : List ℕ). IsWithinCapacities p capacities s) c.as_slice-starts.ensures (subst (λ (a : List ℕ). IsWithinCapacities p a c.as_slice-starts.result.now) c.as_slice-capacities.ensures c.in_default-first_over.ensures) in
    let below : IsWithinCeilings terms capacities = subst (λ (a : List ℕ). IsWithinCeilings terms a) c.as_slice-capacities.ensures c.in_default-first_above_ceiling.ensures in
    let released : (i : ℕ) → i < length p.jobs → release_of terms i ≤ slice_index starts i =
    subst (λ (s : List ℕ). (i : ℕ) → i < length p.jobs → release_of terms i ≤ slice_index s i) c.as_slice-starts.ensures c.in_default-first_early.ensures in
    record { cost = right; fits = record { places = c.requires.starts; in_time = record { released = released; ends = ends }; fits = record { precedence = keeps; within = within } }; ceilings = below }

pub returns-in-Some : goal.returns-in-Some
returns-in-Some c =
    let p = c.args.net.now in
    let terms = c.args.order.now in
    let capacities : List ℕ = c.args.plan.now.capacities in
    let starts : List ℕ = c.args.plan.now.starts in
    let right : HasRightCost terms c.args.plan.now = c.if-plan-cost_of.false ∙ (c.cost_of.ensures ∙ ap (λ (a : List ℕ). cost terms a) c.as_slice-capacities.ensures) in
    (right, subst (λ (s : List ℕ). (i : ℕ) × (number i ≡ c.in-Some.job) × IsFirstLate p (due_of terms) s i) c.as_slice-starts.ensures c.in-Some.ensures)

pub returns-in-Some-first_broken : goal.returns-in-Some-first_broken
returns-in-Some-first_broken c =
    let p = c.args.net.now in
    let terms = c.args.order.now in
    let capacities : List ℕ = c.args.plan.now.capacities in
    let starts : List ℕ = c.args.plan.now.starts in
    let right : HasRightCost terms c.args.plan.now = c.if-plan-cost_of.false ∙ (c.cost_of.ensures ∙ ap (λ (a : List ℕ). cost terms a) c.as_slice-capacities.ensures) in
    let ends : EndsBy p (due_of terms) starts = subst (λ (s : List ℕ). EndsBy p (due_of terms) s) c.as_slice-starts.ensures c.in_default.ensures in
    (right, ends, subst (λ (s : List ℕ). (i j : ℕ) × (number i ≡ c.in-Some-first_broken.before) × (number j ≡ c.in-Some-first_broken.after) × IsFirstBroken p s i j) c.as_slice-starts.ensures c.in-Some-first_broken.ensures)

pub returns-in-Some-first_over : goal.returns-in-Some-first_over
returns-in-Some-first_over c =
    let p = c.args.net.now in
    let terms = c.args.order.now in
    let capacities : List ℕ = c.args.plan.now.capacities in
    let starts : List ℕ = c.args.plan.now.starts in
    let right : HasRightCost terms c.args.plan.now = c.if-plan-cost_of.false ∙ (c.cost_of.ensures ∙ ap (λ (a : List ℕ). cost terms a) c.as_slice-capacities.ensures) in
    let ends : EndsBy p (due_of terms) starts = subst (λ (s : List ℕ). EndsBy p (due_of terms) s) c.as_slice-starts.ensures c.in_default.ensures in
    let keeps : KeepsPrecedence p starts = subst (λ (s : List ℕ). KeepsPrecedence p s) c.as_slice-starts.ensures c.in_default-first_broken.ensures in
    let over = c.in-Some-first_over.ensures in
    let first = subst (λ (a : List ℕ). IsFirstOver p a c.as_slice-starts.result.now over.0 c.in-Some-first_over.time) c.as_slice-capacities.ensures over.2 in
    (right, ends, keeps, (over.0, over.1, subst (λ (s : List ℕ). IsFirstOver p capacities s over.0 c.in-Some-first_over.time) c.as_slice-starts.ensures first))

pub returns-in-Some-first_above_ceiling : goal.returns-in-Some-first_above_ceiling
returns-in-Some-first_above_ceiling c =
    let p = c.args.net.now in
    let terms = c.args.order.now in
    let capacities : List ℕ = c.args.plan.now.capacities in
    let starts : List ℕ = c.args.plan.now.starts in
    let right : HasRightCost terms c.args.plan.now = c.if-plan-cost_of.false ∙ (c.cost_of.ensures ∙ ap (λ (a : List ℕ). cost terms a) c.as_slice-capacities.ensures) in
    let ends : EndsBy p (due_of terms) starts = subst (λ (s : List ℕ). EndsBy p (due_of terms) s) c.as_slice-starts.ensures c.in_default.ensures in
    let keeps : KeepsPrecedence p starts = subst (λ (s : List ℕ). KeepsPrecedence p s) c.as_slice-starts.ensures c.in_default-first_broken.ensures in
    let within : IsWithinCapacities p capacities starts =
    subst (λ (s : List ℕ). IsWithinCapacities p capacities s) c.as_slice-starts.ensures (subst (λ (a : List ℕ). IsWithinCapacities p a c.as_slice-starts.result.now) c.as_slice-capacities.ensures c.in_default-first_over.ensures) in
    let above = c.in-Some-first_above_ceiling.ensures in
    (right, ends, keeps, within, (above.0, above.1, subst (λ (a : List ℕ). IsFirstAboveCeiling p terms a above.0) c.as_slice-capacities.ensures above.2))

pub returns-in-Some-first_early : goal.returns-in-Some-first_early
returns-in-Some-first_early c =
    let p = c.args.net.now in
    let terms = c.args.order.now in
    let capacities : List ℕ = c.args.plan.now.capacities in
    let starts : List ℕ = c.args.plan.now.starts in
    let right : HasRightCost terms c.args.plan.now = c.if-plan-cost_of.false ∙ (c.cost_of.ensures ∙ ap (λ (a : List ℕ). cost terms a) c.as_slice-capacities.ensures) in
    let ends : EndsBy p (due_of terms) starts = subst (λ (s : List ℕ). EndsBy p (due_of terms) s) c.as_slice-starts.ensures c.in_default.ensures in
    let keeps : KeepsPrecedence p starts = subst (λ (s : List ℕ). KeepsPrecedence p s) c.as_slice-starts.ensures c.in_default-first_broken.ensures in
    let within : IsWithinCapacities p capacities starts =
    subst (λ (s : List ℕ). IsWithinCapacities p capacities s) c.as_slice-starts.ensures (subst (λ (a : List ℕ). IsWithinCapacities p a c.as_slice-starts.result.now) c.as_slice-capacities.ensures c.in_default-first_over.ensures) in
    let below : IsWithinCeilings terms capacities = subst (λ (a : List ℕ). IsWithinCeilings terms a) c.as_slice-capacities.ensures c.in_default-first_above_ceiling.ensures in
    let early = c.in-Some-first_early.ensures in
    (right, ends, keeps, within, below, (early.0, early.1, subst (λ (s : List ℕ). IsFirstEarly p (release_of terms) s early.0) c.as_slice-starts.ensures early.2))
