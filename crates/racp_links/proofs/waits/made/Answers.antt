use Rattle.racp_links.proofs.Counted.{made_more}
use Rattle.racp_links.proofs.waits.made.Goals as goal

pub loop-link-preserved : goal.loop-link-preserved
loop-link-preserved c =
    made_more c.args.durations.now c.args.links.now c.loop-link.link-index c.loop-link.made c.add.new.self c.loop-link-test.true c.loop-link.invariant c.in_ok-add.ensures
