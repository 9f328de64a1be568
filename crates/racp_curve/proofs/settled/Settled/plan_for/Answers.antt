use Rattle.std.proofs.Common.{◌≡◌, refl, rules, subst, sym}
use Rattle.racp_curve.specs.Following.{IsSettledFor, SettledPlan}
use Rattle.racp_curve.proofs.Settling.{settled_plan}
use Rattle.racp_curve.proofs.settled.Settled.plan_for.Goals as goal

pub returns : goal.returns
returns g c =
    let s : SettledPlan = record { plan = c.self.inside.plan; end = c.self.inside.end } in
    let settles : IsSettledFor g.N.OfProblem.problem c.args.deadline s = subst (λ (x : SettledPlan). IsSettledFor g.N.OfProblem.problem c.args.deadline x) (sym c.self.view_is) c.requires in
    let starts : c.new.result ≡ c.self.inside.plan.starts = search rules in
    settled_plan g.N.OfProblem.problem c.args.deadline s settles _ refl refl refl c.in_ok-capacities.ensures starts
