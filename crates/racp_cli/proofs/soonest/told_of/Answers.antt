use Rattle.std.proofs.Common.{IfOk, subst}
use Rattle.std.specs.Prelude.{IfErr}
use Rattle.racp_model.specs.Terms.{Terms}
use Rattle.racp_by_questions.specs.Crowds.{MayStop}
use Rattle.racp_soonest.specs.Soonest.{IsSoonestAnswer, IsSoonestStop}
use Rattle.racp_cli.proofs.soonest.told_of.Goals as goal

pub returns : goal.returns
returns g c =
    let p = c.args.net.now in
    let turns = c.args.crew.now.turns in
    let quiet = g.P.Stop.is_quiet c.args.crew.now.stop.now in
    c.told.ensures p turns quiet
    (subst (λ (t : Terms). IfOk c.soonest_by_crew-found.result (IsSoonestAnswer p t)) c.in_ok-team.ensures.team c.soonest_by_crew-found.ensures.answer)
    (subst (λ (t : Terms). IfErr c.soonest_by_crew-found.result (IsSoonestStop p t (MayStop p quiet turns))) c.in_ok-team.ensures.team c.soonest_by_crew-found.ensures.stop)
