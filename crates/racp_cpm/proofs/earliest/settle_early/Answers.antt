use Rattle.std.proofs.Common.{◌≡◌, ◌<◌, length, slice_index, slice_index_or, arith, refl}
use Rattle.racp_model.proofs.lemmas.Sums.{duration-small}
use Rattle.racp_cpm.proofs.Raising.{raised_all, raised-kept, raised-set}
use Rattle.racp_cpm.proofs.lemmas.Bounded.{some_starts}
use Rattle.racp_cpm.proofs.earliest.settle_early.Goals as goal
use Rattle.racp_cpm.proofs.earliest.settle_early.Goals.{then-starts-j, else-starts-j}

pub overflow_add-end : goal.overflow_add-end
overflow_add-end c =
    let net = c.args.net.now in
    let arcs = c.topological_arcs-i-items in
    let some = some_starts net (slice_index c.args.starts.now) 20000000 arcs.ensures.sound (λ i l. c.requires.small i 0 (omega arith)) in
    let named : (slice_index_or arcs.result.now c.loop-i.i-index (0, 0)).0 < length net.jobs = (arcs.ensures.order.named c.loop-i.i-index c.loop-i-test.true).0 in
    omega (arith, some.1.small _ named, c.loop-i.invariant.least some.0 some.1.above some.1.precedence _ named, duration-small net _ arcs.ensures.sound named)

pub loop-i-preserved : goal.loop-i-preserved
loop-i-preserved c =
    let net = c.args.net.now in
    let arcs = c.topological_arcs-i-items in
    elim c.if-starts-j.branch [
      | then-starts-j w ↦ rw (w.starts-is, c.duration.ensures)
          (raised-set net arcs.result.now c.args.starts.now c.loop-i.starts c.loop-i.i-index _ _ arcs.ensures.order c.requires.places c.loop-i-test.true c.loop-i.invariant refl
          (rw (← c.duration.ensures) w.if-starts-j.true))
      | else-starts-j w ↦ rw w.starts-is
          (raised-kept net arcs.result.now c.args.starts.now c.loop-i.starts c.loop-i.i-index _ _ c.loop-i.invariant refl
          (rw (← c.duration.ensures) w.if-starts-j.false))
    ]

pub returns : goal.returns
returns c =
    let arcs = c.topological_arcs-i-items in
    let end : c.loop-i.i-index ≡ length arcs.result.now = omega arith in
    raised_all c.args.net.now arcs.result.now c.args.starts.now c.loop-i.starts arcs.ensures.order c.requires.places (rw (← end) c.loop-i.invariant)
