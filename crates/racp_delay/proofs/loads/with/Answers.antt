use Rattle.std.proofs.Common.{arith}
use Rattle.racp_model.specs.Project.{place}
use Rattle.racp_model.proofs.lemmas.Sums.{request-small}
use Rattle.racp_delay.proofs.loads.with.Goals as goal

pub overflow_add-sums : goal.overflow_add-sums
overflow_add-sums c =
    let most = request-small c.args.net.now (place c.args.job) c.loop-k.k c.requests-requests.ensures.sound (omega arith) (omega (arith, c.requests-requests.ensures.count)) in
    omega (arith, most, c.requires.small c.loop-k.k (omega arith), c.loop-k.invariant.written.rest c.loop-k.k (omega arith), c.requests-requests.ensures.requests c.loop-k.k)
