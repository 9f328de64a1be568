use Rattle.std.proofs.Common.{◌∙◌, ◌++◌, ◌∷◌, [], ℕ, length, slice_index_or, arith, refl, ap, sym, subst, List, Vec}
use Rattle.std.specs.Global.{Global}
use Rattle.racp_model.specs.Terms.{IsBefore}
use Rattle.racp_trees.specs.declared.parts.Part.{Part}
use Rattle.racp_trees.specs.Enough.{IsAtMost, ArePartsAdded}
use Rattle.racp_trees.proofs.Looking.{IsPart}
use Rattle.racp_trees.proofs.Boxes.{looking-first, looking-skip, looking-parts, parts-weigh, skip-weighs, enough-none, taken-is, never, below_of, added_of, at_of, empty}
use Rattle.racp_trees.proofs.enough.gap_until.Goals as goal

pub loop-part-init : goal.loop-part-init
loop-part-init g c =
    looking-first c.args.claim.now.net.now c.args.claim.now.order.now c.args.claim.now.roofs.now c.args.claim.now.capacities.now c.args.blocks.now c.in_ok-whole.field-0 c.push.new.self.items (c.in_ok-push.ensures.items ∙ ap (λ (xs : List Part). xs ++ c.in_ok-whole.field-0 ∷ []) c.new-parts.ensures.items)
    c.requires.claim.roofs c.in_ok-whole.ensures.0 c.in_ok-whole.ensures.1 c.in_ok-whole.ensures.2

pub is_before-requires-clause-vector : goal.is_before-requires-clause-vector
is_before-requires-clause-vector g c =
    let is : IsPart c.args.claim.now.net.now.resources c.args.claim.now.roofs.now c.in-Some.part =
    taken-is c.args.claim.now.net.now c.args.claim.now.order.now c.args.claim.now.roofs.now c.args.claim.now.capacities.now c.args.blocks.now c.requires.claim.terms c.loop-part.parts.items c.pop.new.self.items c.in-Some.part c.in-Some.ensures.items c.loop-part.invariant in
    ap (λ (xs : List ℕ). length xs) c.deref.ensures.value ∙ is.low_places

pub loop-part-smaller-then-not-is_before : goal.loop-part-smaller-then-not-is_before
loop-part-smaller-then-not-is_before g c = skip-weighs c.args.claim.now.net.now c.args.claim.now.order.now c.args.claim.now.roofs.now c.args.claim.now.capacities.now c.args.blocks.now c.requires.claim.terms c.loop-part.parts.items c.pop.new.self.items c.in-Some.part c.in-Some.ensures.items c.loop-part.invariant

pub loop-part-preserved-then-not-is_before : goal.loop-part-preserved-then-not-is_before
loop-part-preserved-then-not-is_before g c =
    looking-skip c.args.claim.now.net.now c.args.claim.now.order.now c.args.claim.now.roofs.now c.args.claim.now.capacities.now c.args.blocks.now c.requires.claim.terms c.loop-part.parts.items c.pop.new.self.items c.in-Some.part c.in-Some.ensures.items c.loop-part.invariant
    (λ before. never c.is_before.result c.if-not-is_before.true (c.is_before.ensures.1 (subst (λ (xs : List ℕ). IsBefore c.args.claim.now.order.now xs c.args.claim.now.capacities.now) (sym c.deref.ensures.value) before)))

pub place_above-requires-clause-low : goal.place_above-requires-clause-low
place_above-requires-clause-low g c =
    let is : IsPart c.args.claim.now.net.now.resources c.args.claim.now.roofs.now c.in-Some.part =
    taken-is c.args.claim.now.net.now c.args.claim.now.order.now c.args.claim.now.roofs.now c.args.claim.now.capacities.now c.args.blocks.now c.requires.claim.terms c.loop-part.parts.items c.pop.new.self.items c.in-Some.part c.in-Some.ensures.items c.loop-part.invariant in
    is.low_places

pub place_above-requires-clause-high : goal.place_above-requires-clause-high
place_above-requires-clause-high g c =
    let is : IsPart c.args.claim.now.net.now.resources c.args.claim.now.roofs.now c.in-Some.part =
    taken-is c.args.claim.now.net.now c.args.claim.now.order.now c.args.claim.now.roofs.now c.args.claim.now.capacities.now c.args.blocks.now c.requires.claim.terms c.loop-part.parts.items c.pop.new.self.items c.in-Some.part c.in-Some.ensures.items c.loop-part.invariant in
    is.high_places

pub push_parts-requires-clause-high : goal.push_parts-requires-clause-high
push_parts-requires-clause-high g c =
    let is : IsPart c.args.claim.now.net.now.resources c.args.claim.now.roofs.now c.in-Some.part =
    taken-is c.args.claim.now.net.now c.args.claim.now.order.now c.args.claim.now.roofs.now c.args.claim.now.capacities.now c.args.blocks.now c.requires.claim.terms c.loop-part.parts.items c.pop.new.self.items c.in-Some.part c.in-Some.ensures.items c.loop-part.invariant in
    (ap (λ (xs : List ℕ). length xs) c.deref-in-Some-place_above-2.ensures.value ∙ is.high_places) ∙ sym (ap (λ (xs : List ℕ). length xs) c.deref-in-Some-place_above.ensures.value ∙ is.low_places)

pub push_parts-requires-clause-block : goal.push_parts-requires-clause-block
push_parts-requires-clause-block g c =
    let is : IsPart c.args.claim.now.net.now.resources c.args.claim.now.roofs.now c.in-Some.part =
    taken-is c.args.claim.now.net.now c.args.claim.now.order.now c.args.claim.now.roofs.now c.args.claim.now.capacities.now c.args.blocks.now c.requires.claim.terms c.loop-part.parts.items c.pop.new.self.items c.in-Some.part c.in-Some.ensures.items c.loop-part.invariant in
    (ap (λ (xs : List ℕ). length xs) c.deref-in-Some-place_above-3.ensures.value ∙ (ap (λ (x : Vec ℕ Global). length x.items) c.index-blocks-k.is ∙ c.requires.blocks c.in-Some-place_above.k c.in-Some-place_above.ensures.0 c.index-blocks-k.result))
    ∙ sym (ap (λ (xs : List ℕ). length xs) c.deref-in-Some-place_above.ensures.value ∙ is.low_places)

pub returns-in-None-clause-gap : goal.returns-in-None-clause-gap
returns-in-None-clause-gap g c =
    let is : IsPart c.args.claim.now.net.now.resources c.args.claim.now.roofs.now c.in-Some.part =
    taken-is c.args.claim.now.net.now c.args.claim.now.order.now c.args.claim.now.roofs.now c.args.claim.now.capacities.now c.args.blocks.now c.requires.claim.terms c.loop-part.parts.items c.pop.new.self.items c.in-Some.part c.in-Some.ensures.items c.loop-part.invariant in
    record {
      places = is.low_places;
      within = is.low_within;
      before = subst (λ (xs : List ℕ). IsBefore c.args.claim.now.order.now xs c.args.claim.now.capacities.now) c.deref.ensures.value (c.is_before.ensures.0 c.if-not-is_before.false);
      above = below_of c.args.claim.now.net.now.resources c.args.blocks.now c.in-Some.part.low.items c.in-Some.part.low.items refl is.low_places c.in-None.ensures;
    }

pub loop-part-smaller : goal.loop-part-smaller
loop-part-smaller g c =
    let is : IsPart c.args.claim.now.net.now.resources c.args.claim.now.roofs.now c.in-Some.part =
    taken-is c.args.claim.now.net.now c.args.claim.now.order.now c.args.claim.now.roofs.now c.args.claim.now.capacities.now c.args.blocks.now c.requires.claim.terms c.loop-part.parts.items c.pop.new.self.items c.in-Some.part c.in-Some.ensures.items c.loop-part.invariant in
    let below : IsAtMost c.args.claim.now.net.now.resources c.in-Some.part.low.items (slice_index_or c.args.blocks.now c.in-Some-place_above.k c.index-blocks-k.result).items =
    at_of c.args.claim.now.net.now.resources c.in-Some.part.low.items c.in-Some.part.low.items _ refl is.low_places (c.in-Some-place_above.ensures.1 c.index-blocks-k.result) in
    let added : ArePartsAdded c.args.claim.now.net.now.resources c.in-Some.part.low.items c.in-Some.part.high.items (slice_index_or c.args.blocks.now c.in-Some-place_above.k c.index-blocks-k.result).items c.pop.new.self.items c.push_parts.new.parts.items =
    added_of c.args.claim.now.net.now.resources c.args.blocks.now c.in-Some-place_above.k c.index-blocks-k.result c.deref-in-Some-place_above.result.now c.deref-in-Some-place_above-2.result.now c.deref-in-Some-place_above-3.result.now c.in-Some.part c.pop.new.self.items c.push_parts.new.parts.items
    c.deref-in-Some-place_above.ensures.value c.deref-in-Some-place_above-2.ensures.value c.deref-in-Some-place_above-3.ensures.value c.index-blocks-k.is is.low_places c.in_ok-push_parts-in-Some-place_above.ensures in
    parts-weigh c.args.claim.now.net.now c.args.claim.now.order.now c.args.claim.now.roofs.now c.args.claim.now.capacities.now c.args.blocks.now c.requires.claim.terms c.loop-part.parts.items c.pop.new.self.items c.in-Some.part c.in-Some.ensures.items c.loop-part.invariant c.in-Some-place_above.k c.index-blocks-k.result c.push_parts.new.parts.items c.requires.sound.limits.most_resources below added

pub loop-part-preserved : goal.loop-part-preserved
loop-part-preserved g c =
    let is : IsPart c.args.claim.now.net.now.resources c.args.claim.now.roofs.now c.in-Some.part =
    taken-is c.args.claim.now.net.now c.args.claim.now.order.now c.args.claim.now.roofs.now c.args.claim.now.capacities.now c.args.blocks.now c.requires.claim.terms c.loop-part.parts.items c.pop.new.self.items c.in-Some.part c.in-Some.ensures.items c.loop-part.invariant in
    let below : IsAtMost c.args.claim.now.net.now.resources c.in-Some.part.low.items (slice_index_or c.args.blocks.now c.in-Some-place_above.k c.index-blocks-k.result).items =
    at_of c.args.claim.now.net.now.resources c.in-Some.part.low.items c.in-Some.part.low.items _ refl is.low_places (c.in-Some-place_above.ensures.1 c.index-blocks-k.result) in
    let added : ArePartsAdded c.args.claim.now.net.now.resources c.in-Some.part.low.items c.in-Some.part.high.items (slice_index_or c.args.blocks.now c.in-Some-place_above.k c.index-blocks-k.result).items c.pop.new.self.items c.push_parts.new.parts.items =
    added_of c.args.claim.now.net.now.resources c.args.blocks.now c.in-Some-place_above.k c.index-blocks-k.result c.deref-in-Some-place_above.result.now c.deref-in-Some-place_above-2.result.now c.deref-in-Some-place_above-3.result.now c.in-Some.part c.pop.new.self.items c.push_parts.new.parts.items
    c.deref-in-Some-place_above.ensures.value c.deref-in-Some-place_above-2.ensures.value c.deref-in-Some-place_above-3.ensures.value c.index-blocks-k.is is.low_places c.in_ok-push_parts-in-Some-place_above.ensures in
    looking-parts c.args.claim.now.net.now c.args.claim.now.order.now c.args.claim.now.roofs.now c.args.claim.now.capacities.now c.args.blocks.now c.requires.claim.terms c.loop-part.parts.items c.pop.new.self.items c.in-Some.part c.in-Some.ensures.items c.loop-part.invariant c.in-Some-place_above.k c.index-blocks-k.result c.push_parts.new.parts.items c.in-Some-place_above.ensures.0 below added

pub returns-clause-gap : goal.returns-clause-gap
returns-clause-gap g c = enough-none c.args.claim.now.net.now c.args.claim.now.order.now c.args.claim.now.roofs.now c.args.claim.now.capacities.now c.args.blocks.now c.loop-part.parts.items (empty c.loop-part.parts.items (omega (arith, c.loop-part.parts.ok.0, c.in_default.ensures.cases.0))) c.loop-part.invariant
