use Rattle.std.proofs.Common.{◌≡◌, ◌∙◌, ◌++◌, ◌∷◌, [], ◌<◌, ◌≤◌, ℕ, List, length, slice_index_or, ap, sym, subst, arith}
use Rattle.racp_model.specs.Terms.{cost}
use Rattle.racp_model.specs.Window.{Bounds}
use Rattle.racp_clauses.specs.Solutions.{values}
use Rattle.racp_clauses.proofs.Rooting.{units-small, cost-small, most-within, root-open}
use Rattle.racp_clauses.proofs.root.root_of.Goals as goal

pub row_of-requires-clause-units : goal.row_of-requires-clause-units
row_of-requires-clause-units c = units-small c.args.net.now c.args.order.now c.args.floors.now c.job_count.ensures.sound c.requires.floors.places c.requires.floors.roofs

pub row_of-requires-clause-cost : goal.row_of-requires-clause-cost
row_of-requires-clause-cost c =
    omega (arith, c.cost_of-least.ensures, cost-small c.args.net.now c.args.order.now c.args.floors.now c.job_count.ensures.sound c.requires.floors.places c.requires.floors.roofs c.requires.terms)

pub row_of-requires-2-clause-units : goal.row_of-requires-2-clause-units
row_of-requires-2-clause-units c =
    let units : List ℕ = c.in_ok-units.units in
    let are = c.in_ok-units.ensures in
    subst (λ (xs : List ℕ). (k d : ℕ) → k < length xs → slice_index_or xs k d ≤ 100000000000000) (sym c.as_slice-2.ensures)
    (units-small c.args.net.now c.args.order.now units c.job_count.ensures.sound are.places (most-within c.args.net.now c.args.order.now units are))

pub row_of-requires-2-clause-cost : goal.row_of-requires-2-clause-cost
row_of-requires-2-clause-cost c =
    let units : List ℕ = c.in_ok-units.units in
    let are = c.in_ok-units.ensures in
    omega (
      arith,
      c.cost_of-most.ensures,
      ap (cost c.args.order.now) c.as_slice.ensures,
      cost-small c.args.net.now c.args.order.now units c.job_count.ensures.sound are.places (most-within c.args.net.now c.args.order.now units are) c.requires.terms,
    )

pub returns-clause-root : goal.returns-clause-root
unfolding values
returns-clause-root c =
    let terms = c.args.order.now in
    let window = c.args.window.now in
    let floors : List ℕ = c.args.floors.now in
    let units : List ℕ = c.in_ok-units.units in
    let paid : c.cost_of-most.result ≡ cost terms units = c.cost_of-most.ensures ∙ ap (cost terms) c.as_slice.ensures in
    record {
      lower = ap (λ (b : Bounds). b.lower) c.new.ensures ∙ (c.in_ok-lower.ensures.row ∙ (ap (λ (xs : List ℕ). xs ++ (floors ++ c.cost_of-least.result ∷ [])) c.lower-starts.ensures.bounds ∙
          ap (λ (v : ℕ). window.lower ++ (floors ++ v ∷ [])) c.cost_of-least.ensures));
      most = (
        units,
        c.in_ok-units.ensures,
        ap (λ (b : Bounds). b.upper) c.new.ensures ∙ (c.in_ok-upper.ensures.row ∙ (ap (λ (xs : List ℕ). xs ++ (c.as_slice-2.result.now ++ c.cost_of-most.result ∷ [])) c.upper.ensures.bounds ∙
            (ap (λ (ys : List ℕ). window.upper ++ (ys ++ c.cost_of-most.result ∷ [])) c.as_slice-2.ensures ∙ ap (λ (v : ℕ). window.upper ++ (units ++ v ∷ [])) paid))),
      );
    }

pub returns-clause-open : goal.returns-clause-open
returns-clause-open c = root-open c.args.net.now c.args.order.now c.args.window.now c.args.floors.now c.new.result c.requires.terms c.requires.root c.requires.floors (returns-clause-root c)
