use Rattle.std.proofs.Common.{arith, heap_items}
use Rattle.racp_candidates.specs.Vectors.{terms_of}
use Rattle.racp_candidates.specs.Frontier.{IsEntered}
use Rattle.racp_candidates.proofs.Entered.{none_priced}
use Rattle.racp_candidates.proofs.Collecting.{collect_none, collect_skip, collect_entered, collect_end}
use Rattle.racp_candidates.proofs.children.children_of.Goals as goal
use Rattle.racp_candidates.proofs.children.children_of.Goals.{then-units-place+in_ok-child+in_ok-enter, else-units-place}

pub loop-place-init : goal.loop-place-init
loop-place-init c = record {
  collecting = collect_none c.args.floors.now c.args.roofs.now c.args.units.now c.requires.units c.last_raised-place.result _ c.new-children.ensures.items c.last_raised-place.ensures;
  priced = none_priced (terms_of c.args.prices.now c.args.owned.now) _ c.new-children.ensures.items;
}

pub loop-place-preserved : goal.loop-place-preserved
loop-place-preserved c = elim c.if-units-place.branch [
  | then-units-place+in_ok-child+in_ok-enter w ↦
      let e : IsEntered c.args.prices.now c.args.owned.now w.in_ok-child.child.items (heap_items c.loop-place.children) (heap_items c.if-units-place.children) =
      rw w.children-is w.in_ok-enter.ensures in
      record {
        collecting =
            collect_entered c.args.floors.now c.args.roofs.now c.args.units.now c.requires.units c.args.prices.now c.args.owned.now _ c.loop-place.place _ _
            (omega (arith, c.loop-place-test.true, c.requires.units.places)) w.if-units-place.true w.in_ok-child.ensures e c.loop-place.invariant.collecting;
        priced = e.priced c.loop-place.invariant.priced;
      }
  | else-units-place w ↦ rw w.children-is record {
    collecting = collect_skip c.args.floors.now c.args.roofs.now c.args.units.now c.requires.units c.loop-place.place _ w.if-units-place.false c.loop-place.invariant.collecting;
    priced = c.loop-place.invariant.priced;
  }
]

pub returns-clause-children : goal.returns-clause-children
returns-clause-children c = collect_end c.args.floors.now c.args.roofs.now c.args.units.now c.requires.units c.loop-place.place _ (omega (arith, c.loop-place-test.false, c.requires.units.places)) c.loop-place.invariant.collecting
