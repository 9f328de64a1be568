use Rattle.std.proofs.Common.{arith}
use Rattle.racp_clauses.proofs.Values.{at_start, start_above}
use Rattle.racp_clauses.proofs.precedence.start_behind.Goals as goal

pub returns-clause-follows : goal.returns-clause-follows
returns-clause-follows c terms starts capacities h w =
    omega (
      arith,
      c.lower.ensures.bound,
      c.duration-duration.ensures,
      at_start c.args.net.now terms starts capacities h c.args.j c.requires.to,
      h.fits.precedence c.args.i c.args.j c.requires.order,
      start_above c.args.net.now terms starts capacities h c.args.bounds.now c.requires.bounds w c.args.i c.requires.from,
    )
