use Rattle.std.proofs.Common.{Option, subst}
use Rattle.std.specs.Prelude.{MatchOption}
use Rattle.racp_model.specs.Plan.{NoneIsEnough}
use Rattle.racp_lexfix.specs.Stages.{AreRootBounds}
use Rattle.racp_lexfix.specs.declared.roots.RootBounds.{RootBounds}
use Rattle.racp_lexfix.proofs.FirstFloors.{over}
use Rattle.racp_lexfix.proofs.learned.Learned.answer_within.Goals as goal

pub returns-in_default : goal.returns-in_default
returns-in_default g c =
    let none : NoneIsEnough c.args.task.now.net.now c.args.task.now.order.now =
    subst (λ (o : Option RootBounds). MatchOption o (NoneIsEnough c.args.task.now.net.now c.args.task.now.order.now) (AreRootBounds c.args.task.now.net.now c.args.task.now.order.now)) c.in_default.is c.in_ok-root.ensures in
    over c.args.task.now.net.now c.args.task.now.order.now c.args.window.now c.requires.root none
