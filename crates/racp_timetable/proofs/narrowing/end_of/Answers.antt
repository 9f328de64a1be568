use Rattle.std.proofs.Common.{arith}
use Rattle.racp_model.proofs.lemmas.Sums.{duration-small}
use Rattle.racp_timetable.proofs.narrowing.end_of.Goals as goal

pub overflow_add-result : goal.overflow_add-result
overflow_add-result c = omega (arith, c.duration.ensures, duration-small c.args.net.now c.args.i c.job_count.ensures.sound c.requires.job)
