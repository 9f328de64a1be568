-- Starts and units answer a question where each part of that is so.
use Rattle.std.proofs.Common.{◌≡◌, ℕ, ◌<◌, ◌≤◌, List, length, slice_index, arith}
use Rattle.racp_model.specs.Project.{Project}
use Rattle.racp_model.specs.Schedule.{FitsInTime}
use Rattle.racp_model.specs.Terms.{Terms}
use Rattle.racp_model.specs.Window.{Bounds, LiesIn}
use Rattle.racp_clauses.specs.Solutions.{HasPlaces, values, units_place, cost_place}
use Rattle.racp_clauses.proofs.lemmas.Places.{each_place, value-start, value-units, value-cost}
use Rattle.racp_learning.specs.Answers.{UnitsLie, CostLies, IsAnswer}

pub answer_of : (p : Project) (terms : Terms) (bounds : Bounds) (starts units : List ℕ) (due : ℕ → ℕ) → HasPlaces p bounds →
    length units ≡ p.resources → LiesIn p bounds starts → UnitsLie p bounds units → CostLies p terms bounds units →
    FitsInTime p (λ _. 0) due units starts → IsAnswer p terms bounds starts units
answer_of p terms bounds starts units due has places lies of_units of_cost fits = record {
  schedule = record { places = fits.places; resources = places; fits = fits.fits };
  within = record { above = λ x l. (each x l).0; below = λ x l. (each x l).1 };
}
  where
    Both : ℕ → Type 0
    Both x = (slice_index bounds.lower x ≤ slice_index (values terms starts units) x) ×
        (slice_index (values terms starts units) x ≤ slice_index bounds.upper x)

    start : (i : ℕ) → i < length p.jobs → Both i
    start i l =
        let at = value-start p terms starts units fits.places places i l in
        (omega (arith, at, lies.above i l), omega (arith, at, lies.below i l))

    unit : (k : ℕ) → k < p.resources → Both (units_place p k)
    unit k l =
        let at = value-units p terms starts units fits.places places k l in
        (omega (arith, at, (of_units k l).0), omega (arith, at, (of_units k l).1))

    price : Both (cost_place p)
    price =
        let at = value-cost p terms starts units fits.places places in
        (omega (arith, at, of_cost.0), omega (arith, at, of_cost.1))

    each : (x : ℕ) → x < length bounds.lower → Both x
    each x l = each_place p Both start unit price x (omega (arith, l, has.lower))
