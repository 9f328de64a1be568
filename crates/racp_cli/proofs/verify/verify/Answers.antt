use Rattle.std.proofs.Common.{rules}
use Rattle.racp_cli.specs.Verifies.{IsVerdict}
use Rattle.racp_cli.proofs.verify.verify.Goals as goal

pub returns-in-Ok : goal.returns-in-Ok
returns-in-Ok g c =
    let checked = c.in_ok-found.ensures in
    let found = c.in_ok-found.found in
    let verdict : IsVerdict found.net found.order found.plan c.args.proof.now c.in-Ok.proved = search rules in
    (found.net, found.order, found.plan, checked.2, checked.3, checked.4, verdict)
