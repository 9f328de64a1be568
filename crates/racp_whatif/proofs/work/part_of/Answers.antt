use Rattle.std.proofs.Common.{◌*◌, ap}
use Rattle.racp_whatif.proofs.Works.{part-small}
use Rattle.racp_whatif.proofs.work.part_of.Goals as goal

pub returns-clause-small : goal.returns-clause-small
returns-clause-small c = part-small c.args.net.now c.args.k c.args.i c.time_of.result (c.request.result * c.time_of.result) c.job_count.ensures.sound c.requires.job c.requires.resource c.time_of.ensures.small (ap (λ n. n * c.time_of.result) c.request.ensures)
