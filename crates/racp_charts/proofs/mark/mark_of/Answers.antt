use Rattle.std.proofs.Common.{◌*◌, ◌<◌, ◌^◌, arith, refl}
use Rattle.racp_charts.specs.Texts.{mark_of}
use Rattle.racp_charts.proofs.Marks.{first_mark, second_mark, third_mark, next_round, no_round}
use Rattle.racp_charts.proofs.mark.mark_of.Goals as goal

pub loop-round-init : goal.loop-round-init
unfolding mark_of
loop-round-init c = (refl, omega arith, omega arith)

pub returns-then-most-power-clause-mark : goal.returns-then-most-power-clause-mark
returns-then-most-power-clause-mark c =
    first_mark c.loop-round._round c.loop-round.power c.args.most _ c.loop-round.invariant.0 (omega (arith, c.loop-round-test.true)) (omega (arith, c.if-most-power.true))

pub returns-then-most-power-2-clause-mark : goal.returns-then-most-power-2-clause-mark
returns-then-most-power-2-clause-mark c =
    second_mark c.loop-round._round c.loop-round.power c.args.most _ c.loop-round.invariant.0 (omega (arith, c.loop-round-test.true)) (omega (arith, c.if-most-power.false)) (omega (arith, c.if-most-power-2.true))

pub returns-then-most-power-3-clause-mark : goal.returns-then-most-power-3-clause-mark
returns-then-most-power-3-clause-mark c =
    third_mark c.loop-round._round c.loop-round.power c.args.most _ c.loop-round.invariant.0 (omega (arith, c.loop-round-test.true)) (omega (arith, c.if-most-power-2.false)) (omega (arith, c.if-most-power-3.true))

pub loop-round-preserved : goal.loop-round-preserved
loop-round-preserved c =
    let past : c.loop-round.power * 60 < c.args.most = omega (arith, c.if-most-power-3.false) in
    let small : c.loop-round.power * 10 < 2 ^ 62 = omega (arith, past, c.ranges.most.fits) in
    (next_round c.loop-round._round c.loop-round.power c.args.most _ c.loop-round.invariant.0 (omega (arith, c.loop-round-test.true)) past, omega (arith, c.loop-round.invariant.1), small)

pub returns-clause-mark : goal.returns-clause-mark
returns-clause-mark c = no_round c.loop-round._round c.loop-round.power c.args.most _ c.loop-round.invariant.0 (omega (arith, c.loop-round-test.false))
