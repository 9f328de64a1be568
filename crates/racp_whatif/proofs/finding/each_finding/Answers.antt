use Rattle.std.proofs.Common.{◌<◌, length, rules}
use Rattle.racp_by_questions.specs.Crowds.{MayStop}
use Rattle.racp_whatif.proofs.Gathering.{listing_on}
use Rattle.racp_whatif.proofs.finding.each_finding.Goals as goal

pub loop-change-preserved : goal.loop-change-preserved
loop-change-preserved g c =
    let p = g.N.OfOrder.network in
    let place = c.loop-change.change-index in
    let changes = c.args.changes.now in
    let within : place < length changes = search rules in
    listing_on (MayStop p g.M.OfTurns.quiet g.M.OfTurns.turns) p g.N.OfOrder.terms changes place _ _ c.in_ok-next.next _ within c.loop-change.invariant c.in_ok-next.ensures.change c.in_ok-next.ensures.right c.in_ok-keep.ensures
