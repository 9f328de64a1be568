use Rattle.std.proofs.Common.{◌≡◌, ◌+◌, slice_index, arith}
use Rattle.racp_clauses.specs.Solutions.{values}
use Rattle.racp_clauses.proofs.Values.{at_units}
use Rattle.racp_clauses.proofs.Work.{request-needed}
use Rattle.racp_clauses.proofs.energy.request.Goals as goal

pub returns-clause-follows : goal.returns-clause-follows
returns-clause-follows c terms bounds starts capacities h w =
    let p = c.args.net.now in
    let at : slice_index (values terms starts capacities) (c.job_count.result + c.args.k) ≡ slice_index capacities c.args.k = rw c.job_count.ensures.count (at_units p terms starts capacities h c.args.k c.requires.resource) in
    omega (arith, at, c.request.ensures, request-needed p starts capacities h c.args.i c.args.k c.requires.job c.requires.resource (omega (arith, c.duration.ensures, c.if-duration-eq0.false)))
