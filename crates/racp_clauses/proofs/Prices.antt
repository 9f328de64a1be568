-- What units cost.
use Rattle.std.proofs.Common.{◌≡◌, ℕ, ◌+◌, ◌-◌, ◌*◌, ◌/◌, ◌<◌, ◌≤◌, ◌==◌, ◌^◌, inl, inr, Bool, true, false, cond, min, List, length, slice_index, arith, ap, refl}
use Rattle.std.proofs.Math.Nat.{mul-le-mul_left}
use Rattle.std.proofs.lemmas.Bool.{eq-eqb}
use Rattle.std.proofs.lemmas.Nat.{le-div}
use Rattle.racp_model.specs.Project.{Project}
use Rattle.racp_model.specs.Schedule.{sum_below}
use Rattle.racp_model.specs.Terms.{Terms, AreTermsOf, cost}
use Rattle.racp_model.specs.Window.{Bounds}
use Rattle.racp_model.proofs.lemmas.Sums.{sum_below-step, sum_below-none, sum_below-mono}
use Rattle.racp_clauses.specs.Solutions.{IsSchedule, IsWithin, HasPlaces, values, units_place, cost_place}
use Rattle.racp_clauses.specs.Rules.{least_price, price_beside}
use Rattle.racp_clauses.proofs.Sums.{sum_below-more}
use Rattle.racp_clauses.proofs.Values.{units_above, cost_below}

-- for a loop that sums prices
pub ruleset least_prices = (sum_below-step, sum_below-none)

-- a resource is not beside itself
pub price-self : (p : Project) (terms : Terms) (bounds : Bounds) (k : ℕ) → price_beside p terms bounds k k ≡ 0
unfolding price_beside
price-self p terms bounds k = ap (λ (c : Bool). cond c 0 (least_price p terms bounds k)) (eq-eqb k k (omega arith))

-- the others cost at most what their least units do
pub price-beside : (p : Project) (terms : Terms) (bounds : Bounds) (k q : ℕ) → price_beside p terms bounds k q ≤ least_price p terms bounds q
unfolding price_beside
price-beside p terms bounds k q = elim (q == k) as (λ c. cond c 0 (least_price p terms bounds q) ≤ least_price p terms bounds q) [ true ↦ omega arith | false ↦ omega arith ]

module _ (p : Project) (terms : Terms) (starts capacities : List ℕ) (are : AreTermsOf p terms) (h : IsSchedule p starts capacities) (bounds : Bounds) (has : HasPlaces p bounds) (w : IsWithin bounds (values terms starts capacities)) where
  abbrev paid : ℕ → ℕ
  paid k = slice_index terms.prices k * (slice_index capacities k - slice_index terms.owned k)

  cost-paid : cost terms capacities ≡ sum_below p.resources paid
  cost-paid = ap (λ n. sum_below n paid) are.price_places

  -- the least units cost at most what the units cost
  pub price-least : (k : ℕ) → k < p.resources → least_price p terms bounds k ≤ paid k
  price-least k resource =
      mul-le-mul_left {m = slice_index bounds.lower (units_place p k) - slice_index terms.owned k} {n = slice_index capacities k - slice_index terms.owned k} (slice_index terms.prices k)
      (omega (arith, units_above p terms starts capacities h bounds has w k resource))

  pub cost-least : sum_below p.resources (least_price p terms bounds) ≤ cost terms capacities
  cost-least = omega (arith, cost-paid, sum_below-mono p.resources (least_price p terms bounds) paid price-least)

  -- what units of one resource cost, with the least of the others, is at most the greatest cost
  pub price-most : (k : ℕ) → k < p.resources → sum_below p.resources (price_beside p terms bounds k) + paid k ≤ slice_index bounds.upper (cost_place p)
  price-most k resource =
      omega (
        arith,
        cost-paid,
        cost_below p terms starts capacities h bounds has w,
        sum_below-more p.resources (price_beside p terms bounds k) paid k (paid k) (λ q l. omega (arith, price-beside p terms bounds k q, price-least q l)) resource (omega (arith, price-self p terms bounds k)),
      )

  -- so the units are at most the owned ones and what is left pays for
  pub units-most : (k : ℕ) → k < p.resources → 0 < slice_index terms.prices k →
      slice_index capacities k ≤ slice_index terms.owned k + (slice_index bounds.upper (cost_place p) - sum_below p.resources (price_beside p terms bounds k)) / slice_index terms.prices k
  units-most k resource some =
      let left : ℕ = slice_index bounds.upper (cost_place p) - sum_below p.resources (price_beside p terms bounds k) in
      let fits : (slice_index capacities k - slice_index terms.owned k) * slice_index terms.prices k ≤ left = omega (arith, price-most k resource) in
      omega (arith, le-div (slice_index capacities k - slice_index terms.owned k) left (slice_index terms.prices k) some fits)
