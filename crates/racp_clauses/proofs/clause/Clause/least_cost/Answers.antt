use Rattle.std.proofs.Common.{arith, ap, length, List, sym, subst}
use Rattle.racp_model.specs.Project.{Project}
use Rattle.racp_clauses.specs.Clauses.{Holds}
use Rattle.racp_clauses.specs.declared.literal.Literal.{Literal}
use Rattle.racp_clauses.proofs.lemmas.Solutions.{least_cost-holds}
use Rattle.racp_clauses.proofs.clause.Clause.least_cost.Goals as goal

pub returns-in-AtLeast-clause-least : goal.returns-in-AtLeast-clause-least
returns-in-AtLeast-clause-least g c open' =
    least_cost-holds g.N.OfProblem.problem c.literals-literals.result.now _ c.in-AtLeast.x c.in-AtLeast.least open'
    (subst (λ (xs : List Literal). Holds g.N.OfProblem.problem xs) (sym c.literals-literals.ensures.literals) c.literals-literals.ensures.holds)
    (omega (arith, c.if-literals-ne1.false)) c.in-AtLeast.is
    (omega (arith, c.if-x-place.true, c.job_count.ensures.count, c.resource_count.ensures.count, ap (λ (p : Project). length p.jobs) c.requires, ap (λ (p : Project). p.resources) c.requires))
