use Rattle.std.proofs.Common.{arith}
use Rattle.racp_delay.proofs.Reaching.{multiple-fits, multiple-none}
use Rattle.racp_delay.proofs.reach.last_multiple.Goals as goal
use Rattle.racp_delay.proofs.reach.last_multiple.Goals.{then-divisor-eq0-via-then-divisor-eq0, then-divisor-eq0-via-else-divisor-eq0+then-capacity-kept}

pub returns-then-divisor-eq0-clause-most : goal.returns-then-divisor-eq0-clause-most
returns-then-divisor-eq0-clause-most c load divides left fits = elim c.then-divisor-eq0.branch [
  | then-divisor-eq0-via-then-divisor-eq0 w ↦ omega (arith, multiple-none c.args.divisor load (omega (arith, w.if-divisor-eq0.true)) divides)
  | then-divisor-eq0-via-else-divisor-eq0+then-capacity-kept w ↦ omega (arith, w.if-capacity-kept.true, fits)
]

pub returns-then-last-left-clause-most : goal.returns-then-last-left-clause-most
returns-then-last-left-clause-most c load divides left fits = omega (arith, multiple-fits c.args.kept c.args.capacity c.args.divisor load (omega (arith, c.if-divisor-eq0.false)) (omega (arith, c.if-capacity-kept.false)) divides fits)
