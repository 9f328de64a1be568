use Rattle.std.proofs.Common.{◌≡◌, ◌∷◌, ◌∙◌, sym, ap}
use Rattle.racp_candidates.specs.Vectors.{is_above_pairs}
use Rattle.racp_candidates.proofs.Above.{above_skipped, places_rest, taken_is}
use Rattle.racp_candidates.proofs.pairs.next_above.Goals as goal

pub returns-then-above_pairs-clause-places : goal.returns-then-above_pairs-clause-places
returns-then-above_pairs-clause-places c =
    let first : c.loop-units.frontier ≡ c.in-Some.units.items ∷ c.next.new.self = taken_is c.loop-units.frontier c.next.new.self c.in_ok-units.field-0 c.in-Some.units c.in_ok-units.ensures c.in-Some.is in
    places_rest c.args.floors.now c.args.pairs.now c.loop-units.frontier c.next.new.self c.in-Some.units.items first c.loop-units.invariant.places

pub loop-units-preserved : goal.loop-units-preserved
loop-units-preserved c =
    let first : c.loop-units.frontier ≡ c.in-Some.units.items ∷ c.next.new.self = taken_is c.loop-units.frontier c.next.new.self c.in_ok-units.field-0 c.in-Some.units c.in_ok-units.ensures c.in-Some.is in
    record {
      same =
          sym (above_skipped c.args.floors.now c.args.pairs.now c.loop-units.frontier c.next.new.self c.in-Some.units.items first
          (ap (is_above_pairs c.args.floors.now c.args.pairs.now) (sym c.deref.ensures.value) ∙ (sym c.above_pairs.ensures ∙ c.if-above_pairs.false)))
          ∙ c.loop-units.invariant.same;
      places = places_rest c.args.floors.now c.args.pairs.now c.loop-units.frontier c.next.new.self c.in-Some.units.items first c.loop-units.invariant.places;
    }
