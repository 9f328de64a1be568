use Rattle.std.proofs.Common.{refl, ◌+◌, ℕ, List, Vec, Option, subst, arith}
use Rattle.std.specs.Global.{Global}
use Rattle.racp_model.specs.Window.{Bounds}
use Rattle.racp_trees.specs.Readers.{IsNextAnswer}
use Rattle.racp_trees.specs.declared.reader.Reader.{Reader}
use Rattle.racp_trees.proofs.Advancing.{tree_first, tree_missing, tree_fails, tree_more, tree_ends, line_ready, line_shorter}
use Rattle.racp_trees.proofs.reader.Reader.read_tree.Goals as goal

pub returns-then-not-branch-clause-tree : goal.returns-then-not-branch-clause-tree
returns-then-not-branch-clause-tree g c =
    tree_fails c.args.ground.now.net.now c.args.ground.now.capacities.now c.args.ground.now.root.now c.args.self.now c.args.text.now c.loop-step.self c.loop-step.lower.items c.loop-step.rest.now c.loop-step.invariant c.in-Some.step c.in-Some.more.now c.in-Some.ensures.0 c.in-Some.ensures.1
    c.some_job_goes.ensures c.conflict_is_one.ensures c.read_line.new.self c.in_ok-read_line.field-0 c.in_ok-read_line.ensures.line c.if-not-branch.true

pub overflow_add-self : goal.overflow_add-self
overflow_add-self g c =
    omega (arith, c.read_line.ensures.number, c.loop-step.invariant.room, line_shorter c.loop-step.rest.now c.in-Some.step c.in-Some.more.now c.in-Some.ensures.1, c.requires.room)

pub next_window-requires-clause-ready : goal.next_window-requires-clause-ready
next_window-requires-clause-ready g c =
    let window : Bounds = record { lower = c.loop-step.lower.items; upper = c.args.ground.now.root.now.upper } in
    let mid : Reader = record { closed = c.read_line.new.self.closed; branches = c.read_line.new.self.branches; number = c.read_line.new.self.number + 1; usual = c.read_line.new.self.usual } in
    (line_ready c.args.ground.now.net.now c.args.ground.now.capacities.now window c.loop-step.self c.read_line.new.self mid c.in-Some.step c.in_ok-read_line.field-0 c.loop-step.invariant.ready c.in_ok-read_line.ensures.line c.if-not-branch.false refl refl).0

pub loop-step-smaller : goal.loop-step-smaller
loop-step-smaller g c = line_shorter c.loop-step.rest.now c.in-Some.step c.in-Some.more.now c.in-Some.ensures.1

pub loop-step-preserved : goal.loop-step-preserved
loop-step-preserved g c =
    let p = c.args.ground.now.net.now in
    let a : List ℕ = c.args.ground.now.capacities.now in
    let root : Bounds = c.args.ground.now.root.now in
    let window : Bounds = record { lower = c.loop-step.lower.items; upper = c.args.ground.now.root.now.upper } in
    let mid : Reader = record { closed = c.read_line.new.self.closed; branches = c.read_line.new.self.branches; number = c.read_line.new.self.number + 1; usual = c.read_line.new.self.usual } in
    let ready = line_ready p a window c.loop-step.self c.read_line.new.self mid c.in-Some.step c.in_ok-read_line.field-0 c.loop-step.invariant.ready c.in_ok-read_line.ensures.line c.if-not-branch.false refl refl in
    tree_more p a root c.args.self.now c.args.text.now c.loop-step.self c.loop-step.lower.items c.loop-step.rest.now c.loop-step.invariant c.in-Some.step c.in-Some.more.now c.in-Some.ensures.0 c.in-Some.ensures.1
    c.some_job_goes.ensures c.conflict_is_one.ensures c.read_line.new.self c.in_ok-read_line.field-0 c.in_ok-read_line.ensures.line mid c.if-not-branch.false refl refl (omega (arith, c.read_line.ensures.number)) c.next_window.new.self c.in-Some-2.next
    (subst (λ (o : Option (Vec ℕ Global)). IsNextAnswer p a root mid c.next_window.new.self o) c.in-Some-2.is c.in_ok-next.ensures.window) c.in_ok-next.ensures.ready ready.1

pub returns-in-None-clause-tree : goal.returns-in-None-clause-tree
returns-in-None-clause-tree g c =
    let p = c.args.ground.now.net.now in
    let a : List ℕ = c.args.ground.now.capacities.now in
    let root : Bounds = c.args.ground.now.root.now in
    let window : Bounds = record { lower = c.loop-step.lower.items; upper = c.args.ground.now.root.now.upper } in
    let mid : Reader = record { closed = c.read_line.new.self.closed; branches = c.read_line.new.self.branches; number = c.read_line.new.self.number + 1; usual = c.read_line.new.self.usual } in
    let ready = line_ready p a window c.loop-step.self c.read_line.new.self mid c.in-Some.step c.in_ok-read_line.field-0 c.loop-step.invariant.ready c.in_ok-read_line.ensures.line c.if-not-branch.false refl refl in
    tree_ends p a root c.args.self.now c.args.text.now c.loop-step.self c.loop-step.lower.items c.loop-step.rest.now c.loop-step.invariant c.in-Some.step c.in-Some.more.now c.in-Some.ensures.0 c.in-Some.ensures.1
    c.some_job_goes.ensures c.conflict_is_one.ensures c.read_line.new.self c.in_ok-read_line.field-0 c.in_ok-read_line.ensures.line mid c.if-not-branch.false refl refl (omega (arith, c.read_line.ensures.number)) c.next_window.new.self
    (subst (λ (o : Option (Vec ℕ Global)). IsNextAnswer p a root mid c.next_window.new.self o) c.in-None.is c.in_ok-next.ensures.window) c.in_ok-next.ensures.ready ready.1

pub returns-clause-tree : goal.returns-clause-tree
returns-clause-tree g c =
    tree_missing c.args.ground.now.net.now c.args.ground.now.capacities.now c.args.ground.now.root.now c.args.self.now c.args.text.now c.loop-step.self c.loop-step.lower.items c.loop-step.rest.now c.loop-step.invariant c.in_default.ensures

pub loop-step-init : goal.loop-step-init
loop-step-init g c =
    tree_first c.args.ground.now.net.now c.args.ground.now.capacities.now c.args.ground.now.root.now c.args.self.now c.args.text.now c.in_ok-lower.lower.items c.requires.ready (cc (c.in_ok-lower.ensures, c.lower.ensures.bounds)) c.requires.root.lower c.lower.ensures.small

pub read_line-requires-clause-lower : goal.read_line-requires-clause-lower
read_line-requires-clause-lower g c = c.loop-step.invariant.low

pub read_line-requires-clause-small : goal.read_line-requires-clause-small
read_line-requires-clause-small g c = c.loop-step.invariant.small

pub read_line-requires-clause-ready : goal.read_line-requires-clause-ready
read_line-requires-clause-ready g c = c.loop-step.invariant.ready
