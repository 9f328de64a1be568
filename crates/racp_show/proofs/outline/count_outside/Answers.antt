use Rattle.std.proofs.Common.{arith}
use Rattle.racp_show.proofs.Outlining.{count_goes_on, count_stops}
use Rattle.racp_show.proofs.outline.count_outside.Goals as goal

pub returns-then-depth : goal.returns-then-depth
returns-then-depth c = count_stops c.args.depth c.args.begun.now c.loop-place.place c.index-begun-place.result c.loop-place-test.true c.index-begun-place.is (omega (arith, c.depth.ensures, c.if-depth.true)) c.loop-place.invariant

pub loop-place-preserved : goal.loop-place-preserved
loop-place-preserved c = count_goes_on c.args.depth c.args.begun.now c.loop-place.place c.index-begun-place.result c.loop-place-test.true c.index-begun-place.is (omega (arith, c.depth.ensures, c.if-depth.false)) c.loop-place.invariant
