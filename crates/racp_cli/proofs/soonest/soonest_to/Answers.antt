use Rattle.std.proofs.Common.{inr, refl}
use Rattle.racp_cli.specs.SoonestAnswers.{IsSoonestAnswer}
use Rattle.racp_cli.proofs.Responding.{answered_as, made_right}
use Rattle.racp_cli.proofs.soonest.soonest_to.Goals as goal

pub returns : goal.returns
returns g c =
    answered_as _ (IsSoonestAnswer c.args.crew.turns (g.P.Stop.is_quiet c.args.crew.stop.now) c.args.net.now c.args.order.now) _ _ c.respond.result
    (made_right (IsSoonestAnswer c.args.crew.turns (g.P.Stop.is_quiet c.args.crew.stop.now) c.args.net.now c.args.order.now) c.answer.result c.answer.ensures (inr (inr (inr (refl, refl))))) c.respond.ensures
