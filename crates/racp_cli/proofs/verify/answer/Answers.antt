use Rattle.racp_cli.proofs.Verifying.{told_until}
use Rattle.racp_cli.proofs.verify.answer.Goals as goal

pub returns : goal.returns
returns g c = told_until (g.S.Stop.is_quiet c.args.stop.now) c.args.net.now c.args.order.now c.args.plan.now c.args.proof.now c.verify-outcome.result c.status_of.result _ c.verify-outcome.ensures c.status_of.ensures c.in_ok-line_of.ensures
