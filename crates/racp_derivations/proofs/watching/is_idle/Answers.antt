use Rattle.std.proofs.Common.{◌≡◌, ◌∙◌, ap, sym, List}
use Rattle.racp_model.specs.Window.{Bounds}
use Rattle.racp_clauses.specs.Inferences.{by_clause, with_inference}
use Rattle.racp_clauses.specs.declared.literal.Literal.{Literal}
use Rattle.racp_derivations.proofs.watching.is_idle.Goals as goal

pub returns : goal.returns
returns g c = λ t.
    let same : by_clause c.bounds.result.now c.literals.result.now ≡ by_clause c.args.derivation.now.bounds c.args.clause.now =
    ap (λ (b : Bounds). by_clause b c.literals.result.now) c.bounds.ensures.bounds
    ∙ ap (λ (ls : List Literal). by_clause c.args.derivation.now.bounds ls) c.literals.ensures.literals in
    ap (with_inference c.args.derivation.now) (sym same) ∙ (c.are_idle.ensures t).stays c.args.derivation.now (sym c.bounds.ensures.bounds)
