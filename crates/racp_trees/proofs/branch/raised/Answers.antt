use Rattle.racp_trees.proofs.Branching.{raised_more}
use Rattle.racp_trees.proofs.branch.raised.Goals as goal

pub loop-i-preserved : goal.loop-i-preserved
loop-i-preserved c =
    rw c.in_ok-push.ensures.items
    (raised_more c.args.times.now c.args.gone.now c.args.end c.loop-i.i c.loop-i.raised.items c.is_among-goes.result c.later.result c.loop-i.invariant.0 c.loop-i.invariant.1 c.requires.end
    (c.requires.times c.loop-i.i 0 c.loop-i-test.true) c.is_among-goes.ensures c.later.ensures)
