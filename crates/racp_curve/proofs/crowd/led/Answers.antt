use Rattle.std.proofs.Common.{subst}
use Rattle.racp_model.specs.Project.{Project}
use Rattle.racp_model.specs.Terms.{Terms}
use Rattle.racp_by_questions.specs.Crowds.{MayStop}
use Rattle.racp_curve.specs.Following.{IsFollowedByCrew}
use Rattle.racp_curve.proofs.crowd.led.Goals as goal

pub returns-in-Ok : goal.returns-in-Ok
returns-in-Ok g c =
    let q = g.N.OfProblem.problem in
    let base = c.args.ahead.now.base in
    let quiet = g.M.OfTurns.quiet in
    let turns = g.M.OfTurns.turns in
    subst (λ (t : Terms). IsFollowedByCrew q.network t (MayStop q.network quiet turns) c.curve_named-curve.result) c.args.ahead.now.of_base.terms
    (subst (λ (p : Project). IsFollowedByCrew p base.order.now (MayStop p quiet turns) c.curve_named-curve.result) c.args.ahead.now.of_base.network c.curve_named-curve.ensures)
