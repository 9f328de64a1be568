-- The values of a schedule by their places, and what bounds on them say.
use Rattle.std.proofs.Common.{◌≡◌, ℕ, ◌+◌, ◌-◌, ◌<◌, ◌≤◌, List, length, slice_index, arith}
use Rattle.racp_model.specs.Project.{Project}
use Rattle.racp_model.specs.Terms.{Terms, cost}
use Rattle.racp_model.specs.Window.{Bounds, LiesIn}
use Rattle.racp_clauses.specs.Solutions.{IsSchedule, IsWithin, HasPlaces, values, units_place, cost_place}
use Rattle.racp_clauses.proofs.lemmas.Places.{each_place, value-start, value-units, value-cost}

module _ (p : Project) (terms : Terms) (starts capacities : List ℕ) (h : IsSchedule p starts capacities) where
  -- the start of a job
  pub at_start : (i : ℕ) → i < length p.jobs → slice_index (values terms starts capacities) i ≡ slice_index starts i
  at_start = value-start p terms starts capacities h.places h.resources

  -- the units of a resource
  pub at_units : (k : ℕ) → k < p.resources → slice_index (values terms starts capacities) (units_place p k) ≡ slice_index capacities k
  at_units = value-units p terms starts capacities h.places h.resources

  -- the cost
  pub at_cost : slice_index (values terms starts capacities) (cost_place p) ≡ cost terms capacities
  at_cost = value-cost p terms starts capacities h.places h.resources

  module _ (bounds : Bounds) (has : HasPlaces p bounds) (w : IsWithin bounds (values terms starts capacities)) where
    pub start_above : (i : ℕ) → i < length p.jobs → slice_index bounds.lower i ≤ slice_index starts i
    start_above i l = omega (arith, at_start i l, w.above i (omega (arith, l, has.lower)))

    pub start_below : (i : ℕ) → i < length p.jobs → slice_index starts i ≤ slice_index bounds.upper i
    start_below i l = omega (arith, at_start i l, w.below i (omega (arith, l, has.lower)))

    pub units_above : (k : ℕ) → k < p.resources → slice_index bounds.lower (units_place p k) ≤ slice_index capacities k
    units_above k l = omega (arith, at_units k l, w.above (units_place p k) (omega (arith, l, has.lower)))

    pub units_below : (k : ℕ) → k < p.resources → slice_index capacities k ≤ slice_index bounds.upper (units_place p k)
    units_below k l = omega (arith, at_units k l, w.below (units_place p k) (omega (arith, l, has.lower)))

    pub cost_above : slice_index bounds.lower (cost_place p) ≤ cost terms capacities
    cost_above = omega (arith, at_cost, w.above (cost_place p) (omega (arith, has.lower)))

    pub cost_below : cost terms capacities ≤ slice_index bounds.upper (cost_place p)
    cost_below = omega (arith, at_cost, w.below (cost_place p) (omega (arith, has.lower)))

    pub lies : LiesIn p bounds starts
    lies = record { places = h.places; above = start_above; below = start_below }

  -- what bounds on all of them say
  pub within-of : (bounds : Bounds) → HasPlaces p bounds → LiesIn p bounds starts →
      ((k : ℕ) → k < p.resources → (slice_index bounds.lower (units_place p k) ≤ slice_index capacities k) × (slice_index capacities k ≤ slice_index bounds.upper (units_place p k))) →
      (slice_index bounds.lower (cost_place p) ≤ cost terms capacities) × (cost terms capacities ≤ slice_index bounds.upper (cost_place p)) → IsWithin bounds (values terms starts capacities)
  within-of bounds has lies units costs = record { above = λ x l. (each x l).0; below = λ x l. (each x l).1 }
    where
      Both : ℕ → Type 0
      Both x = (slice_index bounds.lower x ≤ slice_index (values terms starts capacities) x) × (slice_index (values terms starts capacities) x ≤ slice_index bounds.upper x)

      of_units : (k : ℕ) → k < p.resources → Both (units_place p k)
      of_units k r = (omega (arith, at_units k r, (units k r).0), omega (arith, at_units k r, (units k r).1))

      of_cost : Both (cost_place p)
      of_cost = (omega (arith, at_cost, costs.0), omega (arith, at_cost, costs.1))

      each : (x : ℕ) → x < length bounds.lower → Both x
      each x l = each_place p Both (λ i job. (omega (arith, at_start i job, lies.above i job), omega (arith, at_start i job, lies.below i job))) of_units of_cost x (omega (arith, l, has.lower))
