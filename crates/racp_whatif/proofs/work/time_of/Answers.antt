use Rattle.std.proofs.Common.{arith}
use Rattle.racp_model.proofs.lemmas.Sums.{duration-small}
use Rattle.racp_whatif.proofs.work.time_of.Goals as goal

pub returns-clause-small : goal.returns-clause-small
returns-clause-small c = grind (arith, c.min-3.ensures, c.min.ensures, c.duration-duration.ensures, duration-small c.args.net.now c.args.i c.job_count.ensures.sound c.requires.job)
