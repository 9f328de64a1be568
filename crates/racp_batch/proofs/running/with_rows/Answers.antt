use Rattle.std.proofs.Common.{◌≡◌, rules}
use Rattle.racp_batch.proofs.Told.{run_of}
use Rattle.racp_batch.proofs.running.with_rows.Goals as goal

pub returns-in-Ok : goal.returns-in-Ok
returns-in-Ok g c old head =
    let by : c.in-Ok.shared.batch.now.calendar ≡ c.args.batch.now.calendar = search rules in
    run_of c.args.batch.now.calendar c.in-Ok.shared.batch.now.calendar g.T.OfCases.unlimited g.T.OfCases.quiet g.T.OfCases.cases old _ _ _ c.ending_of-ending.result by head c.in_scope-out.ensures c.ending_of-ending.ensures.rows c.ending_of-ending.ensures.whole c.ending_of-ending.ensures.asked
