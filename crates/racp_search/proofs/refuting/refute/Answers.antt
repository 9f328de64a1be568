use Rattle.std.proofs.Common.{arith, subst}
use Rattle.std.specs.Prelude.{Option}
use Rattle.racp_trees.specs.declared.step.Step.{Step}
use Rattle.racp_search.specs.Refuting.{IsLineOf}
use Rattle.racp_search.proofs.Lines.{line-lighter, lines-next, lines-end, next-yes, empty_stack}
use Rattle.racp_search.proofs.refuting.refute.Goals as goal

pub returns-in_default-2 : goal.returns-in_default-2
returns-in_default-2 c =
    let q = c.args.question.now in
    let line = subst (λ (o : Option Step). IsLineOf c.args.net.now q.capacities c.in-Some.window c.pop.new.self.items c.line_of.new.windows.items o) c.in_default-2.is c.in_ok-step.ensures in
    next-yes c.args.net.now q.capacities q.window c.loop-window.steps.items c.loop-window.windows.items c.pop.new.self.items c.in-Some.window c.loop-window.invariant c.in-Some.ensures.items line

pub loop-window-smaller : goal.loop-window-smaller
loop-window-smaller c =
    let q = c.args.question.now in
    let line = subst (λ (o : Option Step). IsLineOf c.args.net.now q.capacities c.in-Some.window c.pop.new.self.items c.line_of.new.windows.items o) c.in-Some-2.is c.in_ok-step.ensures in
    line-lighter c.args.net.now q.capacities q.window c.loop-window.windows.items c.pop.new.self.items c.line_of.new.windows.items c.in-Some.window c.in-Some-2.step c.in-Some.ensures.items line

pub loop-window-preserved : goal.loop-window-preserved
loop-window-preserved c =
    let q = c.args.question.now in
    let line = subst (λ (o : Option Step). IsLineOf c.args.net.now q.capacities c.in-Some.window c.pop.new.self.items c.line_of.new.windows.items o) c.in-Some-2.is c.in_ok-step.ensures in
    lines-next c.args.net.now q.capacities q.window c.loop-window.steps.items c.loop-window.windows.items c.pop.new.self.items c.in-Some.window c.loop-window.invariant c.in-Some.ensures.items c.in-Some-2.step c.line_of.new.windows.items c.push-in-Some.new.self.items line c.in_ok-push-2.ensures.items

pub returns : goal.returns
returns c =
    let none = empty_stack c.loop-window.windows.items (omega (arith, c.loop-window.windows.ok.0, c.in_default.ensures.cases.0)) in
    lines-end c.args.net.now c.args.question.now c.loop-window.steps.items c.loop-window.windows.items none c.loop-window.invariant
