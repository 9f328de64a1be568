use Rattle.std.proofs.Common.{IsTrue}
use Rattle.racp_clauses.proofs.Stepping.{none-step}
use Rattle.racp_clauses.proofs.least.next_for.Goals as goal

pub loop-at-preserved : goal.loop-at-preserved
loop-at-preserved g c =
    none-step c.args.net.now c.args.x c.args.row.now c.args.clauses.now c.args.from c.loop-at.at c.index-clauses-at.result c.loop-at.invariant c.loop-at-test.true c.index-clauses-at.is
    (λ out. let so : IsTrue c.is_least_by.result = c.is_least_by.ensures.out.1 out in cc (so, c.if-is_least_by.false))
