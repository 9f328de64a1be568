use Rattle.std.proofs.Common.{sym, subst}
use Rattle.racp_model.specs.Project.{Project}
use Rattle.racp_by_questions.specs.Crowds.{HaveTaken}
use Rattle.racp_curve.proofs.Telling.{crew_end}
use Rattle.racp_curve.proofs.by_desks.curve_named.Goals as goal

pub returns : goal.returns
returns g c =
    let p = c.args.ground.now.net.now in
    let crowd = c.curve_with.new.asker in
    crew_end p c.args.ground.now.order.now g.M.OfTurns.quiet crowd.left crowd.pieces g.M.OfTurns.turns c.curve_with.result (subst (λ (q : Project). HaveTaken q g.M.OfTurns.quiet crowd.pieces) (sym c.requires.named) crowd.taken) crowd.counted c.curve_with.ensures.curve c.curve_with.ensures.stop
