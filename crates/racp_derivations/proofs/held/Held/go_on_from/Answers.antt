use Rattle.std.proofs.Common.{◌≡◌, ◌∙◌, refl, sym, subst, ◌<◌, List, length, get_or, arith}
use Rattle.std.specs.Prelude.{Some, None}
use Rattle.std.proofs.lemmas.List.{get_or_read_under}
use Rattle.racp_clauses.specs.Inferences.{by_clause, with_inference}
use Rattle.racp_clauses.specs.Tests.{clause_at}
use Rattle.racp_clauses.specs.declared.literal.Literal.{Literal}
use Rattle.racp_derivations.proofs.Inferring.{by-short}
use Rattle.racp_derivations.proofs.held.Held.go_on_from.Goals as goal

pub returns-in-Some : goal.returns-in-Some
returns-in-Some g c =
    let place : c.args.at < length c.self.inside.clauses.items =
    subst (λ (cs : List (List Literal)). c.args.at < length cs) (sym c.self.view_is) c.requires in
    let behind : c.args.at < length c.self.inside.shorts.items = omega (arith, place, c.self.invariant.same) in
    let is : get_or c.self.inside.shorts.items c.args.at None ≡ Some c.in-Some.short =
    sym (get_or_read_under c.self.inside.shorts.items c.args.at (length c.self.inside.shorts.items) c.index.result.now None c.index.ensures behind refl) ∙ c.in-Some.is in
    subst (λ (cs : List (List Literal)). c.go_on.new.derivation ≡ with_inference c.args.derivation.now (by_clause c.args.derivation.now.bounds (clause_at cs c.args.at))) c.self.view_is
    (by-short c.self.inside.shorts.items c.self.inside.clauses.items c.args.at c.in-Some.short c.args.derivation.now c.go_on.new.derivation c.self.invariant place is c.go_on.ensures)
