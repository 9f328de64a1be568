use Rattle.std.proofs.Common.{refl, ap, ◌∙◌, length, ℕ, [], List, Vec, Option, subst, arith, true}
use Rattle.std.specs.Global.{Global}
use Rattle.std.proofs.lemmas.List.{length-append}
use Rattle.racp_model.specs.Window.{Bounds}
use Rattle.racp_trees.specs.Readers.{IsNextAnswer}
use Rattle.racp_trees.specs.declared.branch.Branch.{Branch}
use Rattle.racp_trees.proofs.Making.{making_first, making_number, making_thinned, making_more, making_ends, making_longer}
use Rattle.racp_trees.proofs.maker.Maker.make_tree.Goals as goal

pub loop-alloc-init : goal.loop-alloc-init
loop-alloc-init g c =
    making_first c.args.ground.now.net.now c.args.ground.now.capacities.now c.args.ground.now.root.now c.forget.new.self.reader c.args.text.now.items c.in_ok-lower.lower.items c.forget.ensures.closed
    (ap (λ (xs : Vec Branch Global). xs.items) c.forget.ensures.thinned.branches ∙ c.requires.branches) (cc (c.in_ok-lower.ensures, c.lower.ensures.bounds)) c.requires.root.lower c.lower.ensures.small

pub make_line-requires-clause-ready : goal.make_line-requires-clause-ready
make_line-requires-clause-ready g c = (c.loop-alloc.invariant.reading []).ready

pub make_line-requires-clause-room : goal.make_line-requires-clause-room
make_line-requires-clause-room g c =
    let is = c.loop-alloc.invariant in
    let number = making_number c.args.ground.now.net.now c.args.ground.now.capacities.now c.args.ground.now.root.now c.forget.new.self.reader c.args.text.now.items c.loop-alloc.self.reader c.loop-alloc.lower.items c.loop-alloc.text.items is in
    omega (arith, number, ap (λ (xs : List ℕ). length xs) is.added, length-append c.args.text.now.items is.lines, c.requires.room, c.forget.ensures.thinned.number)

pub next_window-requires-clause-ready : goal.next_window-requires-clause-ready
next_window-requires-clause-ready g c = (c.in_ok-make_line.ensures c.if-not-branch.false).ready

pub loop-alloc-smaller : goal.loop-alloc-smaller
loop-alloc-smaller g c =
    let made = c.in_ok-make_line.ensures c.if-not-branch.false in
    making_longer c.loop-alloc.text.items c.make_line.new.text.items made.step 16777216 made.added (omega (arith, c.loop-alloc-test.true))

pub loop-alloc-preserved : goal.loop-alloc-preserved
loop-alloc-preserved g c =
    let p = c.args.ground.now.net.now in
    let a : List ℕ = c.args.ground.now.capacities.now in
    let root : Bounds = c.args.ground.now.root.now in
    let made = c.in_ok-make_line.ensures c.if-not-branch.false in
    let is = making_thinned p a root c.forget.new.self.reader c.args.text.now.items c.loop-alloc.self.reader c.loop-alloc.lower.items c.loop-alloc.text.items c.loop-alloc.invariant made.thin made.thinned in
    making_more p a root c.forget.new.self.reader c.args.text.now.items made.thin c.loop-alloc.lower.items c.loop-alloc.text.items is made.step made.little
    c.some_job_goes.ensures c.conflict_is_one.ensures made.read true made.answer c.make_line.new.self.reader refl made.branches made.closed made.number made.kept c.next_window.new.self c.make_line.new.text.items made.added
    c.in-Some.next (subst (λ (o : Option (Vec ℕ Global)). IsNextAnswer p a root c.make_line.new.self.reader c.next_window.new.self o) c.in-Some.is c.in-Ok.ensures.window) c.in-Ok.ensures.ready

pub returns-in-None : goal.returns-in-None
returns-in-None g c whole =
    let p = c.args.ground.now.net.now in
    let a : List ℕ = c.args.ground.now.capacities.now in
    let root : Bounds = c.args.ground.now.root.now in
    let made = c.in_ok-make_line.ensures c.if-not-branch.false in
    let is = making_thinned p a root c.forget.new.self.reader c.args.text.now.items c.loop-alloc.self.reader c.loop-alloc.lower.items c.loop-alloc.text.items c.loop-alloc.invariant made.thin made.thinned in
    making_ends p a root c.forget.new.self.reader c.args.text.now.items made.thin c.loop-alloc.lower.items c.loop-alloc.text.items is made.step made.little
    c.some_job_goes.ensures c.conflict_is_one.ensures made.read true made.answer c.make_line.new.self.reader refl made.branches made.closed made.number made.kept c.next_window.new.self c.make_line.new.text.items made.added
    (subst (λ (o : Option (Vec ℕ Global)). IsNextAnswer p a root c.make_line.new.self.reader c.next_window.new.self o) c.in-None.is c.in-Ok.ensures.window) c.in-Ok.ensures.ready c.args.self.now.reader c.forget.ensures.thinned c.requires.room

pub make_line-requires-clause-lower : goal.make_line-requires-clause-lower
make_line-requires-clause-lower g c = (c.loop-alloc.invariant.reading []).low

pub make_line-requires-clause-small : goal.make_line-requires-clause-small
make_line-requires-clause-small g c = (c.loop-alloc.invariant.reading []).small
