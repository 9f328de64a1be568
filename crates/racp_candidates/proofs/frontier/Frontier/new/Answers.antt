use Rattle.std.proofs.Common.{◌∙◌, heap_items}
use Rattle.racp_candidates.specs.Vectors.{terms_of}
use Rattle.racp_candidates.specs.Frontier.{IsEntered}
use Rattle.racp_candidates.proofs.Entered.{none_priced}
use Rattle.racp_candidates.proofs.Heaps.{first_heap, first_list}
use Rattle.racp_candidates.proofs.frontier.Frontier.new.Goals as goal

pub invariant_of-result : goal.invariant_of-result
invariant_of-result c =
    let e : IsEntered c.args.prices.items c.args.owned.items c.in_ok-copy_list.field-0.items (heap_items c.new-heap.result) (heap_items c.enter.new.heap) =
    rw (← c.deref.ensures.value, ← c.deref-2.ensures.value) c.in_ok-enter.ensures in
    first_heap c.args.prices.items c.args.owned.items c.args.floors.items c.args.roofs.items c.in_ok-copy_list.field-0.items _ _ c.new-heap.ensures.items
    (c.in_ok-copy_list.ensures ∙ c.deref-3.ensures.value) (none_priced (terms_of c.args.prices.items c.args.owned.items) _ c.new-heap.ensures.items)
    c.new-heap.ensures.heap_order e c.requires.prices c.requires.floors c.requires.roofs c.requires.bounds

pub returns : goal.returns
returns c =
    let e : IsEntered c.args.prices.items c.args.owned.items c.in_ok-copy_list.field-0.items (heap_items c.new-heap.result) (heap_items c.enter.new.heap) =
    rw (← c.deref.ensures.value, ← c.deref-2.ensures.value) c.in_ok-enter.ensures in
    first_list c.args.prices.items c.args.owned.items c.args.floors.items c.args.roofs.items c.in_ok-copy_list.field-0.items _ _ c.new-heap.ensures.items
    (c.in_ok-copy_list.ensures ∙ c.deref-3.ensures.value) e c.requires.floors c.requires.roofs c.requires.bounds
