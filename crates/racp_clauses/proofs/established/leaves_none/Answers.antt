use Rattle.std.proofs.Common.{List, length, subst, sym, ◌∙◌}
use Rattle.std.proofs.lemmas.Bool.{eqb-true}
use Rattle.racp_clauses.specs.Clauses.{Holds}
use Rattle.racp_clauses.specs.declared.literal.Literal.{Literal}
use Rattle.racp_clauses.proofs.Leading.{none-enough}
use Rattle.racp_clauses.proofs.established.leaves_none.Goals as goal

pub returns-clause-none : goal.returns-clause-none
returns-clause-none g c empty =
    none-enough g.N.OfProblem.problem c.literals.result.now c.requires
    (subst (λ (xs : List Literal). Holds g.N.OfProblem.problem xs) (sym c.literals.ensures.literals) c.literals.ensures.holds) (eqb-true (length c.literals.result.now) 0 (sym c.is_empty.ensures ∙ empty))
