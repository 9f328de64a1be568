use Rattle.std.proofs.Common.{IfOk, subst, sym}
use Rattle.racp_model.specs.Project.{Project}
use Rattle.racp_desk.specs.Closing.{IsRunClosed}
use Rattle.racp_desk.proofs.records.Records.run.Goals as goal

pub returns : goal.returns
returns g c = subst (λ (p : Project). IfOk c.run-closed.result (IsRunClosed p (g.S.Series.questions c.args.series) c.args.bounds.now.limits.turns (g.P.Stop.is_quiet c.args.bounds.now.stop.now))) (sym c.requires.named) c.run-closed.ensures
