use Rattle.std.proofs.Common.{◌≡◌, ◌∙◌, ap, List}
use Rattle.racp_model.specs.Window.{Bounds}
use Rattle.racp_clauses.specs.Inferences.{by_clause, with_inference}
use Rattle.racp_clauses.specs.declared.inference.Inference.{Inference}
use Rattle.racp_clauses.specs.declared.literal.Literal.{Literal}
use Rattle.racp_clauses.proofs.Open.{of-clause}
use Rattle.racp_clauses.proofs.derivation.Derivation.clause.Goals as goal

pub returns : goal.returns
returns g c =
    let of : c.unit.result ≡ by_clause c.args.self.now.bounds c.args.clause.now =
    of-clause c.bounds.result.now c.literals.result.now c.unit.result c.unit.ensures
    ∙ (ap (λ (b : Bounds). by_clause b c.literals.result.now) c.bounds.ensures.bounds ∙ ap (λ (ls : List Literal). by_clause c.args.self.now.bounds ls) c.literals.ensures.literals) in
    c.apply.ensures ∙ ap (λ (i : Inference). with_inference c.args.self.now i) of
