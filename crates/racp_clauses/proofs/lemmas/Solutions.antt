-- Capacities that are enough, cut to the roofs, are those of a solution, where the root bounds leave nothing out.
use Rattle.std.proofs.Common.{◌≡◌, ℕ, ◌<◌, ◌≤◌, List, length, slice_index, slice_index_or, ◌∙◌, ap, arith, refl, subst, sym}
use Rattle.racp_model.specs.Schedule.{FitsInTime, roof}
use Rattle.racp_model.specs.Terms.{release_of, due_of}
use Rattle.racp_model.specs.Plan.{IsEnough}
use Rattle.racp_model.specs.Window.{LiesIn}
use Rattle.racp_model.specs.Laws.{IsCutToRoofs}
use Rattle.racp_model.proofs.lemmas.Cuts.{cut, cut-at, cut_fits, cut_places, cut-cost, cut-enough}
use Rattle.std.proofs.lemmas.List.{get_or_default, ext_get_or}
use Rattle.racp_prices.specs.Units.{cut_to}
use Rattle.racp_prices.proofs.lemmas.Ceilings.{cut-below}
use Rattle.racp_clauses.specs.Solutions.{Problem, IsSchedule, IsSolution, IsWithin, values, cost_place}
use Rattle.racp_clauses.specs.Clauses.{Satisfies, SatisfiesSome, Holds, Derived, IsDerived}
use Rattle.racp_clauses.specs.Roots.{IsOpen}
use Rattle.racp_clauses.specs.Uses.{IsLeastCost, AreUnitsWithin, RefutedAreNotEnough, HoldsOfFitting}
use Rattle.racp_clauses.specs.declared.literal.Literal.{Literal}
use Rattle.racp_clauses.specs.declared.literal.Literal.TheVariants.{AtLeast}
use Rattle.racp_clauses.proofs.Values.{at_cost, cost_above, within-of}

-- a cut vector is within the roofs and the ceilings
pub cut-most : (q : Problem) (whole : List ℕ) → IsEnough q.network q.terms whole → (k : ℕ) → k < q.network.resources → slice_index (cut q.network whole) k ≤ cut_to q.terms.ceilings k (roof q.network k)
cut-most q whole e k l =
    cut-below q.terms.ceilings (cut_to q.terms.ceilings k (roof q.network k)) (length whole) k (slice_index (cut q.network whole) k) (roof q.network k) whole e.ceilings (omega (arith, l, e.places)) (cut-at q.network whole k l) refl

module _ (q : Problem) (open' : IsOpen q) (whole starts : List ℕ) (e : IsEnough q.network q.terms whole) (fits : FitsInTime q.network (release_of q.terms) (due_of q.terms) whole starts) where
  -- starts that fit lie in the root bounds
  pub fitting-lies : LiesIn q.network q.root starts
  fitting-lies = open'.starts starts fits.places fits.fits.precedence fits.in_time

  -- and are those of a solution, with the cut vector
  pub fitting-solution : IsSolution q starts (cut q.network whole)
  fitting-solution =
      let also = cut-enough q.network q.terms whole e in
      let schedule : IsSchedule q.network starts (cut q.network whole) = record {
        places = fits.places;
        resources = cut_places q.network whole;
        fits = (cut_fits q.network whole (cut q.network whole) starts (cut-at q.network whole)).0 fits.fits;
      } in
      record {
        schedule = schedule;
        within = within-of q.network q.terms starts (cut q.network whole) schedule q.root open'.places fitting-lies
            (λ k l. (open'.least_units (cut q.network whole) also k l, omega (arith, cut-most q whole e k l, open'.most_units k l)))
            (open'.least_cost (cut q.network whole) also, open'.most_cost (cut q.network whole) (cut_places q.network whole) (cut-most q whole e));
      }

-- what is cut to the roofs is the cut vector
pub same-units : (q : Problem) (whole units : List ℕ) → length units ≡ q.network.resources → IsCutToRoofs q.network whole units → cut q.network whole ≡ units
same-units q whole units places is_cut =
    ext_get_or 0 (cut q.network whole) units (cut_places q.network whole ∙ sym places) (λ k l.
    let r : k < q.network.resources = omega (arith, l, cut_places q.network whole) in
    cut-at q.network whole k r ∙ sym (is_cut k r))

-- what fits, with its units cut to the roofs, satisfies some literal of each clause that holds
pub holds-of_fitting : HoldsOfFitting
holds-of_fitting q clause whole units starts open' holds places ceilings fits of_units is_cut =
    let e : IsEnough q.network q.terms whole = record { places = places; ceilings = ceilings; admits = (starts, fits) } in
    subst (λ (v : List ℕ). SatisfiesSome clause (values q.terms starts v)) (same-units q whole units of_units is_cut)
    (holds starts (cut q.network whole) (fitting-solution q open' whole starts e fits))

-- where a clause of one literal says so, no capacities that are enough cost less
pub least_cost-holds : (q : Problem) (clause : List Literal) (l : Literal) (x v : ℕ) → IsOpen q → Holds q clause → length clause ≡ 1 → slice_index_or clause 0 l ≡ AtLeast x v → x ≡ cost_place q.network → IsLeastCost q v
least_cost-holds q clause l x v open' holds one same at whole e =
    let starts : List ℕ = e.admits.0 in
    let s : IsSolution q starts (cut q.network whole) = fitting-solution q open' whole starts e e.admits.1 in
    let some = holds starts (cut q.network whole) s in
    let vs : List ℕ = values q.terms starts (cut q.network whole) in
    let first : some.1.0 ≡ 0 = omega (arith, some.1.1, one) in
    let here : some.0 ≡ slice_index_or clause 0 l = sym some.1.2 ∙ (ap (λ k. slice_index_or clause k some.0) first ∙ get_or_default clause 0 some.0 l (omega (arith, one))) in
    let true' : Satisfies (AtLeast x v) vs = subst (λ (m : Literal). Satisfies m vs) (here ∙ same) some.2 in
    let least : v ≤ slice_index vs (cost_place q.network) = subst (λ (y : ℕ). v ≤ slice_index vs y) at true' in
    omega (arith, least, at_cost q.network q.terms starts (cut q.network whole) s.schedule, cut-cost q.network q.terms whole open'.terms)

-- nothing is enough whose cut units lie within bounds in which there is no solution
pub refuted-not_enough : RefutedAreNotEnough
refuted-not_enough q bounds whole units open' leave refuted places is_cut within e =
    let starts : List ℕ = e.admits.0 in
    let s : IsSolution q starts (cut q.network whole) = fitting-solution q open' whole starts e e.admits.1 in
    let lies : LiesIn q.network q.root starts = fitting-lies q open' whole starts e e.admits.1 in
    let now : AreUnitsWithin q bounds (cut q.network whole) = subst (λ (v : List ℕ). AreUnitsWithin q bounds v) (sym (same-units q whole units places is_cut)) within in
    refuted starts (cut q.network whole) s (within-of q.network q.terms starts (cut q.network whole) s.schedule bounds leave.places
    (record { places = lies.places; above = λ i l. omega (arith, lies.above i l, leave.lower i l); below = λ i l. omega (arith, lies.below i l, leave.upper i l) })
    (λ k l. (now.above k l, now.below k l)) (now.cost_above, now.cost_below))

-- the lower bound of the cost that is derived without a clause
pub ground-cost : (q : Problem) (d : Derived) → IsDerived q d → length d.clause ≡ 0 → IsOpen q → IsLeastCost q (slice_index d.bounds.lower (cost_place q.network))
ground-cost q d h none open' whole e =
    let starts : List ℕ = e.admits.0 in
    let s : IsSolution q starts (cut q.network whole) = fitting-solution q open' whole starts e e.admits.1 in
    let within : IsWithin d.bounds (values q.terms starts (cut q.network whole)) = (h.left starts (cut q.network whole) s (λ l c. absurd (omega (arith, c.1, none)))).1 in
    omega (arith, cost_above q.network q.terms starts (cut q.network whole) s.schedule d.bounds h.places within, cut-cost q.network q.terms whole open'.terms)
