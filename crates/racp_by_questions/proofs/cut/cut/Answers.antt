use Rattle.std.proofs.Common.{◌∙◌, List, ℕ, arith, slice_index, ap, subst}
use Rattle.racp_by_questions.specs.Searched.{IsMostBefore}
use Rattle.racp_by_questions.proofs.Cutting.{cutting-next, none-before}
use Rattle.racp_by_questions.proofs.cut.cut.Goals as goal

pub returns-then-not-comes_after : goal.returns-then-not-comes_after
returns-then-not-comes_after c =
    none-before c.args.net.now c.args.order.now c.args.low.now c.args.high.now c.args.known.now.best c.requires.low c.requires.terms c.deref.result.now
    (c.deref.ensures.value ∙ c.into_vec-units.ensures ∙ c.in_ok-copy.ensures) (λ before. cc (c.comes_after.ensures.1 before, c.if-not-comes_after.true))

pub loop-k-preserved : goal.loop-k-preserved
loop-k-preserved c =
    cutting-next c.args.net.now c.args.order.now c.args.low.now c.args.high.now c.args.known.now.best c.requires.low c.loop-k.k c.loop-k.most.items c.push.new.self.items c.loop-k.units.items c.most_before.new.units.items c.most_before.result
    (omega (arith, c.loop-k-test.true, c.resource_count-k-end.ensures.count)) c.loop-k.invariant c.most_before.ensures.same
    (subst (λ (roof : ℕ). IsMostBefore c.args.net.now c.args.order.now c.loop-k.units.items c.args.known.now.best c.loop-k.k roof c.most_before.result) (ap (λ (xs : List ℕ). slice_index xs c.loop-k.k) c.as_slice.ensures) c.most_before.ensures.most)
    c.in_ok-push.ensures.items
