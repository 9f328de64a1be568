use Rattle.std.proofs.Common.{◌-◌, subst, sym}
use Rattle.racp_model.specs.Project.{Project}
use Rattle.racp_by_questions.specs.Crowds.{HaveTaken}
use Rattle.racp_lexfix.proofs.Turns.{crowd_stop}
use Rattle.racp_lexfix.proofs.by_workers.plan_by.Goals as goal

pub returns-clause-stop : goal.returns-clause-stop
returns-clause-stop g c =
    let crowd = c.plan_after.new.asker in
    let net = c.args.task.now.net.now in
    let order = c.args.task.now.order.now in
    let quiet = g.M.OfTurns.quiet in
    let answered = crowd.answered - c.with_search-crowd.result.answered in
    let taken = subst (λ (p : Project). HaveTaken p quiet crowd.pieces) (sym c.requires.named) crowd.taken in
    crowd_stop net order quiet crowd.left crowd.pieces g.M.OfTurns.turns answered crowd.told c.in-Err.stop taken crowd.counted c.in-Err.ensures.stop
