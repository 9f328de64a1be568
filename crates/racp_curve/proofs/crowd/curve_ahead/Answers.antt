use Rattle.std.proofs.Common.{subst, sym}
use Rattle.racp_model.specs.Project.{Project}
use Rattle.racp_model.specs.Terms.{Terms}
use Rattle.racp_by_questions.specs.Crowds.{MayStop}
use Rattle.racp_curve.specs.Following.{IsFollowedByCrew}
use Rattle.racp_curve.proofs.crowd.curve_ahead.Goals as goal

pub returns-in-Ok : goal.returns-in-Ok
returns-in-Ok g c =
    let q = g.N.OfProblem.problem in
    let net = c.args.ground.now.net.now in
    let quiet = g.M.OfTurns.quiet in
    let turns = g.M.OfTurns.turns in
    subst (λ (t : Terms). IsFollowedByCrew net t (MayStop net quiet turns) c.in_scope-curve.result) (sym c.requires.of.terms)
    (subst (λ (p : Project). IsFollowedByCrew p q.terms (MayStop p quiet turns) c.in_scope-curve.result) (sym c.requires.of.network) c.in_scope-curve.ensures)
