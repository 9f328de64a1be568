use Rattle.std.proofs.Common.{arith}
use Rattle.racp_timetable.proofs.Moving.{narrowed-same, reduced}
use Rattle.racp_timetable.proofs.precedence.reduce_before.Goals as goal

pub returns-then-end-duration : goal.returns-then-end-duration
returns-then-end-duration c capacities from starts answers =
    omega (arith, c.if-end-duration.true, c.duration-duration.ensures, c.upper-end.ensures.bound, answers.fits.precedence c.args.i c.args.j c.requires.order, answers.lies.below c.args.j c.requires.to)

pub returns-then-upper-end : goal.returns-then-upper-end
returns-then-upper-end c capacities from = narrowed-same c.args.net.now capacities from c.args.window.now c.requires.bounds

pub returns : goal.returns
returns c capacities from =
    reduced c.args.net.now capacities from c.args.window.now c.reduce.new.self c.args.i _ c.requires.bounds c.requires.from c.reduce.result (omega (arith, c.if-upper-end.false, c.upper.ensures.bound))
    (λ starts answers. omega (arith, c.duration-duration.ensures, c.upper-end.ensures.bound, answers.fits.precedence c.args.i c.args.j c.requires.order, answers.lies.below c.args.j c.requires.to)) c.reduce.ensures
