use Rattle.racp_model.proofs.lemmas.Arcs.{from_at-number, to_at-number}
use Rattle.racp_model.proofs.Topological.{pairs_below-push}
use Rattle.racp_model.proofs.topology.places.Goals as goal

pub loop-i-preserved : goal.loop-i-preserved
loop-i-preserved c =
    let arcs = c.args.arcs.now in
    let k = c.loop-i.i-index in
    pairs_below-push arcs k c.place_of.result c.place_of-in-loop-i.result c.loop-i.pairs.items c.push.new.self.items c.loop-i.invariant c.loop-i-test.true
    (from_at-number arcs k c.place_of.result (0, 0) c.loop-i-test.true c.place_of.ensures) (to_at-number arcs k c.place_of-in-loop-i.result (0, 0) c.loop-i-test.true c.place_of-in-loop-i.ensures) c.in_ok-push.ensures.items
