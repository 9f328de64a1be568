use Rattle.std.proofs.Common.{subst}
use Rattle.racp_model.specs.Project.{Project}
use Rattle.racp_model.specs.Terms.{Terms}
use Rattle.racp_model.specs.Plan.{IsEnough}
use Rattle.racp_curve.specs.Curves.{order_by}
use Rattle.racp_curve.specs.Following.{IsEarlier}
use Rattle.racp_curve.specs.declared.earlier.Earlier.{Earlier}
use Rattle.racp_curve.specs.declared.earlier.Earlier.TheVariants.{NotEnough}
use Rattle.racp_curve.proofs.ending.known_earlier.Goals as goal

pub returns-in-NotEnough : goal.returns-in-NotEnough
returns-in-NotEnough g c = λ enough.
    let q = g.N.OfProblem.problem in
    let capacities = c.args.capacities.now in
    let told : IsEarlier q.network q.terms capacities c.args.deadline NotEnough = subst (λ (e : Earlier). IsEarlier q.network q.terms capacities c.args.deadline e) c.in-NotEnough.is c.earlier_ahead.ensures in
    told
    (subst (λ (t : Terms). IsEnough q.network (order_by c.args.deadline t) capacities) c.requires.of.terms
    (subst (λ (p : Project). IsEnough p (order_by c.args.deadline c.args.ground.now.order.now) capacities) c.requires.of.network enough))
