use Rattle.std.proofs.Common.{◌≤◌, IfOk, subst, arith, Result}
use Rattle.racp_candidates.specs.AnySeries.{any_questions}
use Rattle.racp_desk.specs.declared.fault.DeskFault.{DeskFault}
use Rattle.racp_desk.specs.declared.closed.Closed.{Closed}
use Rattle.racp_desk.specs.Closing.{IsRunClosed}
use Rattle.racp_by_questions.proofs.Asking.{pieces_few}
use Rattle.racp_by_questions.proofs.Turns.{one_more}
use Rattle.racp_by_questions.proofs.crowd.Crowd.closed.Goals as goal

pub count-requires-clause-pieces : goal.count-requires-clause-pieces
count-requires-clause-pieces g c =
    let questions = any_questions c.args.series in
    let closed : IsRunClosed g.N.OfNetwork.network questions c.args.limits.turns g.M.OfTurns.quiet c.in-Ok.closed =
    subst (λ (r : Result Closed DeskFault). IfOk r (IsRunClosed g.N.OfNetwork.network questions c.args.limits.turns g.M.OfTurns.quiet)) c.in-Ok.is
    (c.requires.run.closes c.args.series c.args.limits c.run.result c.run.ensures) in
    let few : c.in-Ok.closed.pieces ≤ c.args.limits.turns = pieces_few g.N.OfNetwork.network questions c.args.limits.turns g.M.OfTurns.quiet c.in-Ok.closed closed in
    omega (arith, few, c.requires.turns)

pub count-requires-clause-taken : goal.count-requires-clause-taken
count-requires-clause-taken g c =
    let questions = any_questions c.args.series in
    let closed : IsRunClosed g.N.OfNetwork.network questions c.args.limits.turns g.M.OfTurns.quiet c.in-Ok.closed =
    subst (λ (r : Result Closed DeskFault). IfOk r (IsRunClosed g.N.OfNetwork.network questions c.args.limits.turns g.M.OfTurns.quiet)) c.in-Ok.is
    (c.requires.run.closes c.args.series c.args.limits c.run.result c.run.ensures) in
    one_more g.N.OfNetwork.network g.M.OfTurns.quiet c.args.self.now.pieces questions c.args.limits.turns c.in-Ok.closed c.args.self.now.taken closed
