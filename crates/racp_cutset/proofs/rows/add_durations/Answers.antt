use Rattle.std.proofs.Common.{arith}
use Rattle.racp_model.proofs.lemmas.Sums.{duration-small}
use Rattle.racp_cutset.proofs.rows.add_durations.Goals as goal

pub overflow_add-times : goal.overflow_add-times
overflow_add-times c =
    let net = c.args.net.now in
    omega (arith, c.loop-i.invariant.others c.loop-i.i (omega arith), c.requires.small c.loop-i.i (omega arith), c.duration.ensures, duration-small net c.loop-i.i c.job_count-i-end.ensures.sound (omega arith))
