-- What clauses say of the units of a resource.
use Rattle.std.proofs.Common.{◌≡◌, ◌∙◌, ℕ, ◌≤◌, List, length, slice_index, slice_index_or, ap, arith, subst, sym}
use Rattle.std.proofs.lemmas.List.{get_or_default}
use Rattle.racp_model.proofs.lemmas.Cuts.{cut, cut-at, cut_places}
use Rattle.racp_clauses.specs.Solutions.{Problem, values, units_place}
use Rattle.racp_clauses.specs.Clauses.{Satisfies, Holds}
use Rattle.racp_clauses.specs.Roots.{IsOpen}
use Rattle.racp_clauses.specs.Uses.{HoldsOfFitting}
use Rattle.racp_clauses.specs.declared.literal.Literal.{Literal}
use Rattle.racp_clauses.specs.declared.literal.Literal.TheVariants.{AtLeast}
use Rattle.racp_clauses.proofs.lemmas.Places.{value-units}
use Rattle.racp_by_clauses.specs.Optima.{AreLeastUnits}

-- where a clause is the one literal that there are at least so many, no capacities that are enough have fewer
pub clause-units : HoldsOfFitting → (q : Problem) (clause : List Literal) (l : Literal) (x k least : ℕ) → IsOpen q → Holds q clause → length clause ≡ 1 → slice_index_or clause 0 l ≡ AtLeast x least → x ≡ units_place q.network k →
    AreLeastUnits q k least
clause-units fitting q clause l x k least open' holds one same at enough e r =
    let starts : List ℕ = e.admits.0 in
    let units : List ℕ = cut q.network enough in
    let vs : List ℕ = values q.terms starts units in
    let some = fitting q clause enough units starts open' holds e.places e.ceilings e.admits.1 (cut_places q.network enough) (cut-at q.network enough) in
    let first : some.1.0 ≡ 0 = omega (arith, some.1.1, one) in
    let here : some.0 ≡ slice_index_or clause 0 l = sym some.1.2 ∙ (ap (λ i. slice_index_or clause i some.0) first ∙ get_or_default clause 0 some.0 l (omega (arith, one))) in
    let true' : Satisfies (AtLeast x least) vs = subst (λ (m : Literal). Satisfies m vs) (here ∙ same) some.2 in
    let more : least ≤ slice_index vs (units_place q.network k) = subst (λ (y : ℕ). least ≤ slice_index vs y) at true' in
    omega (arith, more, value-units q.network q.terms starts units e.admits.1.places (cut_places q.network enough) k r, cut-at q.network enough k r)
