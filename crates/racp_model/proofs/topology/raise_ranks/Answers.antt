use Rattle.std.proofs.Common.{◌≡◌}
use Rattle.racp_model.specs.Ranks.{from_at, to_at}
use Rattle.racp_model.proofs.lemmas.Arcs.{from_at-number, to_at-number}
use Rattle.racp_model.proofs.Raising.{sweeping-skip, sweeping-raise, sweeping-ring}
use Rattle.racp_model.proofs.topology.raise_ranks.Goals as goal
use Rattle.racp_model.proofs.topology.raise_ranks.Goals.{then-rank-to+else-rank-from, else-rank-to}

pub returns-then-rank-from : goal.returns-then-rank-from
returns-then-rank-from c =
    let arcs = c.args.arcs.now in
    let k = c.loop-i.i-index in
    let from : c.place_of.result ≡ from_at arcs k = from_at-number arcs k c.place_of.result (0, 0) c.loop-i-test.true c.place_of.ensures in
    let to : c.place_of-in-loop-i.result ≡ to_at arcs k = to_at-number arcs k c.place_of-in-loop-i.result (0, 0) c.loop-i-test.true c.place_of-in-loop-i.ensures in
    sweeping-ring arcs c.args.rank.now k c.loop-i.raised c.loop-i.rank c.place_of.result c.place_of-in-loop-i.result c.requires.numbers c.loop-i-test.true c.loop-i.invariant from to c.if-rank-from.true

pub loop-i-preserved : goal.loop-i-preserved
loop-i-preserved c =
    let arcs = c.args.arcs.now in
    let k = c.loop-i.i-index in
    let from : c.place_of.result ≡ from_at arcs k = from_at-number arcs k c.place_of.result (0, 0) c.loop-i-test.true c.place_of.ensures in
    let to : c.place_of-in-loop-i.result ≡ to_at arcs k = to_at-number arcs k c.place_of-in-loop-i.result (0, 0) c.loop-i-test.true c.place_of-in-loop-i.ensures in
    elim c.if-rank-to.branch [
      | then-rank-to+else-rank-from w ↦ rw (w.rank-is, w.raised-is)
          (sweeping-raise arcs c.args.rank.now k c.loop-i.raised c.loop-i.rank c.place_of.result c.place_of-in-loop-i.result c.requires.numbers c.loop-i-test.true c.loop-i.invariant from to w.if-rank-to.true w.if-rank-from.false)
      | else-rank-to w ↦ rw (w.rank-is, w.raised-is)
          (sweeping-skip arcs c.args.rank.now k c.loop-i.raised c.loop-i.rank c.place_of.result c.place_of-in-loop-i.result c.loop-i.invariant from to w.if-rank-to.false)
    ]
