use Rattle.std.proofs.Common.{ℕ, Option, arith, subst}
use Rattle.racp_curve.specs.Following.{IsSooner}
use Rattle.racp_curve.proofs.Deadlines.{enough_later}
use Rattle.racp_curve.proofs.ending.shorten.Goals as goal

pub sooner-requires-clause-planned : goal.sooner-requires-clause-planned
sooner-requires-clause-planned g c = (c.requires.planned.0, omega (arith, c.requires.planned.1, c.ends.invariant.sooner, c.in-Some.ensures), c.requires.planned.2)

pub returns-in-None-clause-shortest : goal.returns-in-None-clause-shortest
returns-in-None-clause-shortest g c = λ deadline l e.
    let p = c.args.ground.now.net.now in
    let terms = c.args.ground.now.order.now in
    let capacities = c.args.capacities.now in
    let none : IsSooner p terms capacities c.in-Some.deadline c.in_ok-earlier.field-0 = c.in_ok-earlier.ensures.sooner in
    (subst (λ (o : Option ℕ). IsSooner p terms capacities c.in-Some.deadline o) c.in-None.is none) (enough_later p terms deadline c.in-Some.deadline capacities (omega (arith, l, c.in-Some.ensures)) e)
