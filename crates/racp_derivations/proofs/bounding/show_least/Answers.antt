use Rattle.std.proofs.Common.{◌∙◌, sym}
use Rattle.std.proofs.lemmas.Bool.{true≢false}
use Rattle.racp_derivations.proofs.CostLeaving.{not-step, not-end}
use Rattle.racp_derivations.proofs.bounding.show_least.Goals as goal

pub loop-clause-preserved : goal.loop-clause-preserved
loop-clause-preserved g c =
    not-step c.args.net.now c.args.least c.args.clauses.now c.loop-clause.clause-index c.clause-item.result c.loop-clause.invariant c.loop-clause-test.true c.clause-item.is
    (λ out. true≢false (sym (c.leaves_out_less.ensures.exact.1 out) ∙ c.if-leaves_out_less.false))

pub returns-clause-exact : goal.returns-clause-exact
returns-clause-exact g c = (
  λ so. absurd (true≢false (sym so)),
  λ any. absurd (not-end c.args.net.now c.args.least c.args.clauses.now c.loop-clause.clause-index c.loop-clause.invariant c.loop-clause-test.false any),
)
