use Rattle.std.proofs.Common.{◌∙◌, ◌+◌, ℕ, Vec, ap, sym, refl}
use Rattle.std.specs.Global.{Global}
use Rattle.racp_links.specs.Phases.{is_phase}
use Rattle.racp_links.proofs.Outlines.{leaf_more, no_leaf_more}
use Rattle.racp_links.proofs.outline.leaves.Goals as goal
use Rattle.racp_links.proofs.outline.leaves.Goals.{then-not-marks-place+in_ok-push, else-not-marks-place}

pub loop-place-preserved : goal.loop-place-preserved
loop-place-preserved c = elim c.if-not-marks-place.branch [
  | then-not-marks-place+in_ok-push w ↦
      leaf_more (is_phase c.args.parents.now) c.loop-place.place (c.loop-place.place + 1) c.loop-place.found.items c.if-not-marks-place.found.items refl
      (sym (c.requires.marks.each c.loop-place.place c.loop-place-test.true) ∙ w.if-not-marks-place.true) c.loop-place.invariant
      (ap (λ (v : Vec ℕ Global). v.items) w.found-is ∙ w.in_ok-push.ensures.items)
  | else-not-marks-place w ↦
      ap (λ (v : Vec ℕ Global). v.items) w.found-is
      ∙ no_leaf_more (is_phase c.args.parents.now) c.loop-place.place (c.loop-place.place + 1) c.loop-place.found.items refl
      (sym (c.requires.marks.each c.loop-place.place c.loop-place-test.true) ∙ w.if-not-marks-place.false) c.loop-place.invariant
]
