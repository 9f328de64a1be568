use Rattle.std.proofs.Common.{◌∙◌, sym, subst, List}
use Rattle.racp_clauses.specs.Clauses.{Holds}
use Rattle.racp_clauses.specs.declared.literal.Literal.{Literal}
use Rattle.racp_clauses.proofs.Deriving.{derived-holds}
use Rattle.racp_clauses.proofs.derivation.Derivation.finish.Goals as goal

pub invariant_of-result : goal.invariant_of-result
invariant_of-result g c =
    subst (λ (xs : List Literal). Holds g.N.OfProblem.problem xs) (sym (c.in_ok-literals.ensures.items ∙ c.deref.ensures.value))
    (derived-holds g.N.OfProblem.problem (record { bounds = c.self.inside.bounds; empty = c.self.inside.empty; clause = c.self.inside.clause.items }) c.self.invariant c.if-not-self.false)
