use Rattle.std.proofs.Common.{arith}
use Rattle.racp_model.proofs.lemmas.Sums.{request-small}
use Rattle.racp_timetable.proofs.core_times.add_to.Goals as goal

pub overflow_add-loads : goal.overflow_add-loads
overflow_add-loads c =
    let most = request-small c.args.net.now c.args.i c.loop-k.k c.requests-requests.ensures.sound (omega arith) (omega (arith, c.requests-requests.ensures.count)) in
    omega (arith, most, c.requires.small c.loop-k.k (omega arith), c.loop-k.invariant.written.rest c.loop-k.k (omega arith), c.requests-requests.ensures.requests c.loop-k.k)
