-- What no solution is less than is the plan.
use Rattle.std.proofs.Common.{◌≡◌, ◌∙◌, ℕ, ◌+◌, ◌<◌, List, length, inl, inr, arith, sym}
use Rattle.racp_model.specs.Project.{Project}
use Rattle.racp_model.specs.Terms.{IsBefore, IsLexBefore}
use Rattle.racp_model.specs.Plan.{IsEnough, NoneIsEnough, FitsTerms}
use Rattle.racp_model.proofs.lemmas.Orders.{first_from_lex, vectors_ordered}
use Rattle.racp_model.proofs.lemmas.Costs.{before_cases}
use Rattle.racp_model.proofs.lemmas.Cuts.{cut, cut_places, cut_before, cut-enough, cut-no_later}
use Rattle.racp_clauses.specs.Solutions.{Problem, IsSolution, values, units_place, cost_place}
use Rattle.racp_clauses.specs.Roots.{IsOpen}
use Rattle.racp_clauses.specs.Clauses.{Holds}
use Rattle.racp_clauses.specs.declared.literal.Literal.{Literal}
use Rattle.racp_clauses.proofs.lemmas.Solutions.{fitting-solution}
use Rattle.racp_plan.specs.Fitting.{AreFitting}
use Rattle.racp_clauses.specs.Least.{AreLeast, NoneStandBefore, LeastUnitsAreFirst, LeastIsPlan}
use Rattle.racp_clauses.proofs.Turns.{turn-start, turn-units, turn-cost}
use Rattle.racp_clauses.proofs.Lesser.{less-by_cost, less-by_units, less-by_start}

-- no capacities that are enough stand before those that no solution is less than
pub first-holds : LeastUnitsAreFirst
first-holds q t a open' t_places a_places least whole e before =
    let p : Project = q.network in
    let s : List ℕ = e.admits.0 in
    let u : List ℕ = cut p whole in
    let u_places : length u ≡ p.resources = cut_places p whole in
    let found : IsSolution q s u = fitting-solution q open' whole s e e.admits.1 in
    let also : IsBefore q.terms u a = cut_before p q.terms whole a open'.terms e.places before in
    elim (before_cases q.terms u a also) [
      | inl less ↦ least (cost_place p) (omega arith) (omega (arith, turn-cost p)) s u found (less-by_cost p q.terms s u t a found.schedule.places u_places t_places a_places less)
      | inr tie ↦
          let first = first_from_lex u a (u_places ∙ sym a_places) tie.1 in
          let in' : first.0 < p.resources = omega (arith, first.1, u_places) in
          least (units_place p first.0) (omega (arith, in')) (omega (arith, in', turn-units p first.0 in')) s u found
          (less-by_units p q.terms s u t a found.schedule.places u_places t_places a_places first.0 in' tie.0 first.2 first.3)
    ]

-- capacities that are enough and before which none stand are cut to the roofs
pub first-cut : (q : Problem) (a : List ℕ) → IsOpen q → IsEnough q.network q.terms a → NoneStandBefore q.network q.terms a → cut q.network a ≡ a
first-cut q a open' e none = elim (vectors_ordered q.terms (cut q.network a) a) [
  | inl before ↦ absurd (none (cut q.network a) (cut-enough q.network q.terms a e) before)
  | inr rest ↦ elim rest [
    | inl same ↦ same
    | inr after ↦ absurd (cut-no_later q.network q.terms a open'.terms e.places after)
  ]
]

-- no starts that fit are less than those that no solution is less than
pub starts-hold : (q : Problem) (a t s : List ℕ) → IsOpen q → AreFitting q.network q.terms a t → NoneStandBefore q.network q.terms a →
    AreLeast q (cost_place q.network + 1) (values q.terms t a) → FitsTerms q.network q.terms a s → IsLexBefore s t → ⊥
starts-hold q a t s open' fit none least fits before =
    let p : Project = q.network in
    let e : IsEnough p q.terms a = record { places = fit.places; ceilings = fit.ceilings; admits = (s, fits) } in
    let equal : cut p a ≡ a = first-cut q a open' e none in
    let first = first_from_lex s t (fits.places ∙ sym fit.fits.places) before in
    let in' : first.0 < length p.jobs = omega (arith, first.1, fits.places) in
    least first.0 (omega (arith, in')) (omega (arith, in', turn-start p first.0 in')) s (cut p a) (fitting-solution q open' a s e fits)
    (less-by_start p q.terms s (cut p a) t a fits.places (cut_places p a) fit.fits.places fit.places first.0 in' equal first.2 first.3)

-- so starts that fit and that no solution is less than are the plan's
pub least-plan : LeastIsPlan
least-plan q a t open' fit least =
    let p : Project = q.network in
    let none : NoneStandBefore p q.terms a =
    first-holds q t a open' fit.fits.places fit.places (λ x l before. least x l (omega (arith, before))) in
    record {
      vector = record { is = record { places = fit.places; ceilings = fit.ceilings; admits = (t, fit.fits) }; least = none };
      schedule = record { is = fit.fits; least = λ s fits before. starts-hold q a t s open' fit none least fits before };
    }

-- where a clause without literals holds, no capacities are enough
pub none-enough : (q : Problem) (clause : List Literal) → IsOpen q → Holds q clause → length clause ≡ 0 → NoneIsEnough q.network q.terms
none-enough q clause open' holds empty whole e =
    let some = holds e.admits.0 (cut q.network whole) (fitting-solution q open' whole e.admits.0 e e.admits.1) in
    omega (arith, some.1.1, empty)
