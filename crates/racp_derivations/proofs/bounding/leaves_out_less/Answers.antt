use Rattle.std.proofs.Common.{subst, sym}
use Rattle.racp_derivations.specs.BoundTexts.{LeavesOutLess}
use Rattle.racp_derivations.proofs.CostLeaving.{least-by_clause}
use Rattle.racp_derivations.proofs.bounding.leaves_out_less.Goals as goal

pub returns-clause-exact : goal.returns-clause-exact
returns-clause-exact g c = (
  λ so. subst (LeavesOutLess c.args.net.now c.args.least) c.literals.ensures.literals (c.all_say_least.ensures.0 so),
  λ out. c.all_say_least.ensures.1 (subst (LeavesOutLess c.args.net.now c.args.least) (sym c.literals.ensures.literals) out),
)

pub returns-clause-least : goal.returns-clause-least
returns-clause-least g c so =
    least-by_clause g.N.OfProblem.problem c.args.net.now c.args.least c.literals.result.now c.args.clause.now c.requires.named c.literals.ensures.literals c.requires.open c.literals.ensures.holds (c.all_say_least.ensures.0 so)
