use Rattle.std.proofs.Common.{arith}
use Rattle.racp_clauses.proofs.Values.{at_start, start_below}
use Rattle.racp_clauses.proofs.precedence.start_before.Goals as goal

pub returns-then-end-duration-clause-follows : goal.returns-then-end-duration-clause-follows
returns-then-end-duration-clause-follows c terms starts capacities h w =
    omega (
      arith,
      c.if-end-duration.true,
      c.upper-end.ensures.bound,
      c.duration-duration.ensures,
      h.fits.precedence c.args.i c.args.j c.requires.order,
      start_below c.args.net.now terms starts capacities h c.args.bounds.now c.requires.bounds w c.args.j c.requires.to,
    )

pub returns-clause-follows : goal.returns-clause-follows
returns-clause-follows c terms starts capacities h w =
    omega (
      arith,
      c.upper-end.ensures.bound,
      c.duration-duration.ensures,
      at_start c.args.net.now terms starts capacities h c.args.i c.requires.from,
      h.fits.precedence c.args.i c.args.j c.requires.order,
      start_below c.args.net.now terms starts capacities h c.args.bounds.now c.requires.bounds w c.args.j c.requires.to,
    )
