use Rattle.std.proofs.Common.{arith}
use Rattle.racp_show.proofs.Greatest.{usage-small}
use Rattle.racp_show.proofs.usage.used_at.Goals as goal

pub overflow_cast-result : goal.overflow_cast-result
overflow_cast-result c =
    omega (arith, c.usage_at.ensures, usage-small c.args.net.now c.args.starts.now c.args.k c.args.time c.resource_count.ensures.sound c.requires.resource)
