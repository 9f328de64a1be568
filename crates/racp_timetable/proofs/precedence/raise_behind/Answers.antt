use Rattle.std.proofs.Common.{arith}
use Rattle.racp_timetable.proofs.Moving.{narrowed-same, raised}
use Rattle.racp_timetable.proofs.precedence.raise_behind.Goals as goal

pub returns-then-end-lower : goal.returns-then-end-lower
returns-then-end-lower c capacities from = narrowed-same c.args.net.now capacities from c.args.window.now c.requires.bounds

pub returns : goal.returns
returns c capacities from =
    raised c.args.net.now capacities from c.args.window.now c.raise.new.self c.args.j c.end_of-end.result c.requires.bounds c.requires.to c.raise.result (omega (arith, c.if-end-lower.false, c.lower-2.ensures.bound))
    (λ starts answers. omega (arith, c.end_of-end.ensures, c.lower.ensures.bound, answers.fits.precedence c.args.i c.args.j c.requires.order, answers.lies.above c.args.i c.requires.from))
    (λ starts keeps above less. omega (arith, c.end_of-end.ensures, c.lower.ensures.bound, keeps c.args.i c.args.j c.requires.order, above c.args.i c.requires.from (omega (arith, less, c.end_of-end.ensures, c.lower.ensures.bound)))) c.raise.ensures
