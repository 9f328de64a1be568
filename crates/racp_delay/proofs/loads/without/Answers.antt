use Rattle.std.proofs.Common.{arith}
use Rattle.racp_delay.proofs.loads.without.Goals as goal

pub returns : goal.returns
returns c k l =
    omega (arith, c.loop-k.invariant.done k (omega (arith, l, c.requests-requests.ensures.count, c.loop-k-test.false)), c.requires.within k l)
