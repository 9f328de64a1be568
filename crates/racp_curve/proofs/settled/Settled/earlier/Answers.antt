use Rattle.std.proofs.Common.{◌≡◌, ◌≤◌, arith, rules}
use Rattle.racp_curve.specs.Following.{IsSettledFor, SettledPlan}
use Rattle.racp_curve.proofs.Settling.{settled_enough, settled_not}
use Rattle.racp_curve.proofs.settled.Settled.earlier.Goals as goal

pub returns-then-self-deadline : goal.returns-then-self-deadline
returns-then-self-deadline g c =
    let s : SettledPlan = record { plan = c.self.inside.plan; end = c.self.inside.end } in
    let same : c.self.inside.plan.capacities ≡ c.args.capacities.now = search rules in
    let within : c.self.inside.end ≤ c.args.deadline = omega (arith, c.if-self-deadline.true) in
    settled_enough g.N.OfProblem.problem s c.args.deadline c.args.capacities.now c.self.invariant within same

pub returns-then-is_for : goal.returns-then-is_for
returns-then-is_for g c =
    let s : SettledPlan = record { plan = c.self.inside.plan; end = c.self.inside.end } in
    let others : c.self.inside.plan.capacities ≡ c.args.capacities.now → ⊥ = search rules in
    let settles : IsSettledFor g.N.OfProblem.problem c.args.deadline s = search rules in
    settled_not g.N.OfProblem.problem c.args.deadline s settles c.args.capacities.now c.requires.planned others
