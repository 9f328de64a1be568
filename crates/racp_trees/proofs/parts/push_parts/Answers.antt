use Rattle.std.proofs.Common.{◌∙◌, ◌++◌, ◌∷◌, [], List, arith, ap}
use Rattle.std.proofs.lemmas.List.{append_assoc}
use Rattle.racp_trees.specs.declared.parts.Part.{Part}
use Rattle.racp_trees.proofs.Boxes.{parts-more, parts-skip}
use Rattle.racp_trees.proofs.parts.push_parts.Goals as goal
use Rattle.racp_trees.proofs.parts.push_parts.Goals.{then-block-k+in_ok-part_at+in_ok-push, else-block-k}

pub loop-k-preserved : goal.loop-k-preserved
loop-k-preserved c = elim c.if-block-k.branch [
  | then-block-k+in_ok-part_at+in_ok-push w ↦ rw w.parts-is (
    c.loop-k.invariant.0 ++ w.in_ok-part_at.field-0 ∷ [],
    w.in_ok-push.ensures.items ∙ (ap (λ (xs : List Part). xs ++ w.in_ok-part_at.field-0 ∷ []) c.loop-k.invariant.1 ∙ append_assoc c.args.parts.now.items c.loop-k.invariant.0 (w.in_ok-part_at.field-0 ∷ [])),
    parts-more _ c.args.low.now c.args.high.now c.args.block.now c.loop-k.k c.loop-k.invariant.0 w.in_ok-part_at.field-0 c.loop-k.invariant.2 w.in_ok-part_at.ensures,
  )
  | else-block-k w ↦ rw w.parts-is
      (c.loop-k.invariant.0, c.loop-k.invariant.1, parts-skip _ c.args.low.now c.args.high.now c.args.block.now c.loop-k.k c.loop-k.invariant.0 c.loop-k.invariant.2 (omega (arith, w.if-block-k.false)))
]
