use Rattle.std.proofs.Common.{rules, ◌≡◌, ◌<◌, [], length, ◌∙◌, sym, heap_items, Contains}
use Rattle.std.proofs.lemmas.List.Elements.{All-contains}
use Rattle.racp_candidates.specs.Box.{IsBetween}
use Rattle.racp_candidates.specs.Vectors.{terms_of, AreChildren}
use Rattle.racp_candidates.specs.Frontier.{vectors_in, ArePriced}
use Rattle.racp_candidates.proofs.Entered.{none_of}
use Rattle.racp_candidates.proofs.Heaps.{vector_of, no_list, IsHeapStep, next_heap, next_list}
use Rattle.racp_candidates.proofs.frontier.Frontier.next.Goals as goal

pub children_of-requires-clause-units : goal.children_of-requires-clause-units
children_of-requires-clause-units c =
    let i = c.self.inside in
    let within : 0 < length (heap_items i.heap) = search (rules, c.in-Some.ensures) in
    let member : Contains (heap_items i.heap) c.in-Some.first.now = (0, within, sym c.in-Some.ensures.lookup) in
    let between : IsBetween i.floors.items i.roofs.items c.in-Some.first.now.0.units.items =
    All-contains (IsBetween i.floors.items i.roofs.items) (vectors_in (heap_items i.heap)) _ c.self.invariant.frontier.between (vector_of (heap_items i.heap) c.in-Some.first.now member) in
    rw (c.deref-in-Some-2.ensures.value, c.deref-in-Some-3.ensures.value, c.deref-in-Some-4.ensures.value) between

pub returns-in-None : goal.returns-in-None
returns-in-None c =
    let i = c.self.inside in
    let none : heap_items i.heap ≡ [] = none_of (heap_items i.heap) c.in-None.ensures.item.3 in
    let same : c.args.self.now ≡ [] = sym c.self.view_is ∙ no_list i.prices.items i.owned.items i.floors.items i.roofs.items (heap_items i.heap) none c.self.invariant in
    (same, same)

pub invariant_of-self-in-Some-pop : goal.invariant_of-self-in-Some-pop
invariant_of-self-in-Some-pop c =
    let i = c.self.inside in
    let within : 0 < length (heap_items i.heap) = search (rules, c.in-Some.ensures) in
    let children : AreChildren i.floors.items i.roofs.items c.in-Some.first.now.0.units.items (vectors_in (heap_items c.in_ok-children-in-Some.children)) =
    rw (← c.deref-in-Some-2.ensures.value, ← c.deref-in-Some-3.ensures.value, ← c.deref-in-Some-4.ensures.value) c.in_ok-children-in-Some.ensures.children in
    let priced : ArePriced (terms_of i.prices.items i.owned.items) (heap_items c.in_ok-children-in-Some.children) =
    rw (← c.deref.ensures.value, ← c.deref-in-Some.ensures.value) c.in_ok-children-in-Some.ensures.priced in
    let step : IsHeapStep i.prices.items i.owned.items i.floors.items i.roofs.items (heap_items i.heap) c.in-Some.first.now (heap_items c.in_ok-children-in-Some.children) (heap_items c.append.new.self) c.in-Some-pop.first (heap_items c.pop.new.self) =
    record {
      heap = c.self.invariant;
      member = (0, within, sym c.in-Some.ensures.lookup);
      top = c.in-Some.ensures.greatest c.self.invariant.ordered;
      children_are = children;
      priced = priced;
      joined = c.in_ok-append.ensures.permutation;
      parted = c.in-Some-pop.ensures.permutation;
      greatest = (c.in-Some-pop.ensures.heap_order (c.in_ok-append.ensures.heap_order c.self.invariant.ordered)).1;
      ordered = (c.in-Some-pop.ensures.heap_order (c.in_ok-append.ensures.heap_order c.self.invariant.ordered)).0;
    } in
    next_heap i.prices.items i.owned.items i.floors.items i.roofs.items (heap_items i.heap) c.in-Some.first.now (heap_items c.in_ok-children-in-Some.children) (heap_items c.append.new.self) c.in-Some-pop.first (heap_items c.pop.new.self) step

pub returns-in-Some-pop : goal.returns-in-Some-pop
returns-in-Some-pop c =
    let i = c.self.inside in
    let within : 0 < length (heap_items i.heap) = search (rules, c.in-Some.ensures) in
    let children : AreChildren i.floors.items i.roofs.items c.in-Some.first.now.0.units.items (vectors_in (heap_items c.in_ok-children-in-Some.children)) =
    rw (← c.deref-in-Some-2.ensures.value, ← c.deref-in-Some-3.ensures.value, ← c.deref-in-Some-4.ensures.value) c.in_ok-children-in-Some.ensures.children in
    let priced : ArePriced (terms_of i.prices.items i.owned.items) (heap_items c.in_ok-children-in-Some.children) =
    rw (← c.deref.ensures.value, ← c.deref-in-Some.ensures.value) c.in_ok-children-in-Some.ensures.priced in
    let step : IsHeapStep i.prices.items i.owned.items i.floors.items i.roofs.items (heap_items i.heap) c.in-Some.first.now (heap_items c.in_ok-children-in-Some.children) (heap_items c.append.new.self) c.in-Some-pop.first (heap_items c.pop.new.self) =
    record {
      heap = c.self.invariant;
      member = (0, within, sym c.in-Some.ensures.lookup);
      top = c.in-Some.ensures.greatest c.self.invariant.ordered;
      children_are = children;
      priced = priced;
      joined = c.in_ok-append.ensures.permutation;
      parted = c.in-Some-pop.ensures.permutation;
      greatest = (c.in-Some-pop.ensures.heap_order (c.in_ok-append.ensures.heap_order c.self.invariant.ordered)).1;
      ordered = (c.in-Some-pop.ensures.heap_order (c.in_ok-append.ensures.heap_order c.self.invariant.ordered)).0;
    } in
    sym c.self.view_is ∙ next_list i.prices.items i.owned.items i.floors.items i.roofs.items (heap_items i.heap) c.in-Some.first.now (heap_items c.in_ok-children-in-Some.children) (heap_items c.append.new.self) c.in-Some-pop.first (heap_items c.pop.new.self) step
