use Rattle.std.proofs.Common.{arith}
use Rattle.racp_by_questions.proofs.Halves.{AreHalves, cut_some, halved-halves, widest_some}
use Rattle.racp_by_questions.proofs.Learning.{known-same}
use Rattle.racp_by_questions.proofs.ahead.first_question.Goals as goal

pub loop-halving-preserved : goal.loop-halving-preserved
loop-halving-preserved c =
    let s = c.args.subject.now in
    let known = c.args.known.now in
    let part = c.loop-halving.part in
    let is_span = c.loop-halving.invariant in
    let is_cut = cut_some s.net.now s.order.now part.low part.high known.best c.in_ok-high.field-0 c.in-Some.high c.in_ok-high.ensures c.in-Some.is in
    let lane = widest_some part.low c.in-Some.high c.widest.result c.in-Some-widest.k c.widest.ensures c.in-Some-widest.is in
    let are : AreHalves s part known.best (c.in_ok-below.below, c.in_ok-below.field-0-1) =
    halved-halves s c.requires.subject part is_span known c.requires.known c.in-Some.high is_cut known (known-same s c.requires.subject known c.requires.known)
    c.in-Some-widest.k (omega (arith, lane.0, is_span.low)) (c.in_ok-below.below, c.in_ok-below.field-0-1) c.in_ok-below.ensures in
    are.below
