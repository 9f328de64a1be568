use Rattle.racp_clauses.specs.Clauses.{Derived}
use Rattle.racp_clauses.proofs.Deriving.{follows-negation}
use Rattle.racp_clauses.proofs.derivation.Derivation.suppose.Goals as goal

pub apply-requires : goal.apply-requires
apply-requires g c =
    let d : Derived = record { bounds = c.self.inside.bounds; empty = c.self.inside.empty; clause = c.self.inside.clause.items } in
    rw (c.in_ok-push.ensures.items, c.negated.ensures) (follows-negation g.N.OfProblem.problem d c.args.literal)
