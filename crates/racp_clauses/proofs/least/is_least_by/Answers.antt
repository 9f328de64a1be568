use Rattle.racp_clauses.proofs.Leaving.{none-by_clause}
use Rattle.racp_clauses.proofs.least.is_least_by.Goals as goal

pub returns-clause-none : goal.returns-clause-none
returns-clause-none g c so =
    none-by_clause g.N.OfProblem.problem c.args.net.now c.args.x c.args.row.now c.literals.result.now c.args.clause.now c.requires.named c.literals.ensures.literals c.literals.ensures.holds (c.leaves_out.ensures.0 so)
