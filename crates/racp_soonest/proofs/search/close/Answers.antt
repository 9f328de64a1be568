use Rattle.std.proofs.Common.{ap, arith}
use Rattle.racp_model.specs.Terms.{Terms}
use Rattle.racp_soonest.proofs.search.close.Goals as goal

pub spans-smaller : goal.spans-smaller
spans-smaller g c =
    let terms = c.args.task.now.order.now in
    c.after.ensures.room c.args.task.now.net.now terms terms.deadline c.in_ok-found.ensures.tried c.in-Some.ensures.some.0
    (omega (arith, c.in-Some.ensures.some.1, ap (λ (t : Terms). t.deadline) c.order.view_is)) c.in-Some.ensures.sooner
