use Rattle.std.proofs.Common.{◌≤◌, arith}
use Rattle.racp_curve.proofs.Asking.{last_within}
use Rattle.racp_curve.proofs.ending.end_of.Goals as goal

pub overflow_cast-result : goal.overflow_cast-result
overflow_cast-result c =
    let within : c.last_end.result ≤ c.args.deadline = last_within c.args.net.now c.args.starts.now c.last_end.result c.args.deadline c.last_end.ensures.last c.requires.ends in
    omega (arith, within, c.ranges.deadline)

pub returns-clause-within : goal.returns-clause-within
returns-clause-within c = omega (arith, last_within c.args.net.now c.args.starts.now c.last_end.result c.args.deadline c.last_end.ensures.last c.requires.ends)
