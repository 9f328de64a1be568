use Rattle.std.proofs.Common.{List, ℕ, ◌-◌, ◌/◌, arith, refl, subst, sym}
use Rattle.racp_model.specs.Terms.{IsBefore}
use Rattle.racp_by_questions.proofs.Cutting.{halving-down}
use Rattle.racp_by_questions.proofs.cut.most_before.Goals as goal

pub loop-least-preserved : goal.loop-least-preserved
loop-least-preserved c =
    let middle = c.loop-least.most - (c.loop-least.most - c.loop-least.least) / 2 in
    halving-down c.args.net.now c.args.order.now c.requires.terms c.args.units.now.items c.args.known.now.best c.requires.units c.args.k c.args.roof c.requires.resource
    c.loop-least.least c.loop-least.most middle c.loop-least.units.items _ c.loop-least.invariant refl (omega (arith, c.loop-least-test.true)) (omega arith)
    (λ before. cc (c.comes_after.ensures.1 (subst (λ (x : List ℕ). IsBefore c.args.order.now x c.args.known.now.best) (sym c.deref.ensures.value) before), c.if-comes_after.false))
