use Rattle.std.proofs.Common.{subst, sym}
use Rattle.racp_clauses.specs.Clauses.{Derived}
use Rattle.racp_clauses.specs.Inferences.{FollowsIn}
use Rattle.racp_clauses.specs.declared.inference.Inference.{Inference}
use Rattle.racp_clauses.proofs.Deriving.{derived-met}
use Rattle.racp_clauses.proofs.derivation.Derivation.apply.Goals as goal

pub invariant_of-self-else-not-meet : goal.invariant_of-self-else-not-meet
invariant_of-self-else-not-meet g c =
    let q = g.N.OfProblem.problem in
    let d : Derived = record { bounds = c.self.inside.bounds; empty = c.self.inside.empty; clause = c.self.inside.clause.items } in
    let here : FollowsIn q d c.args.inference = subst (λ (e : Derived). FollowsIn q e c.args.inference) (sym c.self.view_is) c.requires in
    derived-met q d c.self.invariant c.in-Narrow.literal c.meet.new.self c.meet.result (subst (λ (i : Inference). FollowsIn q d i) c.in-Narrow.is here) c.meet.ensures.bounds c.meet.ensures.left c.if-not-meet.false
