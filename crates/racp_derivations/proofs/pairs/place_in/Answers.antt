use Rattle.std.proofs.Common.{◌+◌, ◌-◌, ◌/◌, arith, IsTrue}
use Rattle.racp_derivations.proofs.Halving.{place-up, place-down}
use Rattle.racp_derivations.proofs.pairs.place_in.Goals as goal

pub loop-low-preserved-then-stands_before : goal.loop-low-preserved-then-stands_before
loop-low-preserved-then-stands_before c =
    place-up c.args.arcs.now c.args.wanted c.requires c.loop-low.low c.loop-low.high (c.loop-low.low + (c.loop-low.high - c.loop-low.low) / 2) c.loop-low.invariant (omega (arith, c.loop-low-test.true)) (omega (arith, c.loop-low-test.true))
    (c.stands_before.ensures.0 c.if-stands_before.true).1

pub loop-low-preserved : goal.loop-low-preserved
loop-low-preserved c =
    place-down c.args.arcs.now c.args.wanted c.requires c.loop-low.low c.loop-low.high (c.loop-low.low + (c.loop-low.high - c.loop-low.low) / 2) c.loop-low.invariant (omega (arith, c.loop-low-test.true)) (omega (arith, c.loop-low-test.true))
    (λ before. let so : IsTrue c.stands_before.result = c.stands_before.ensures.1 (omega (arith, c.loop-low-test.true, c.loop-low.invariant.within), before) in cc (so, c.if-stands_before.false))
