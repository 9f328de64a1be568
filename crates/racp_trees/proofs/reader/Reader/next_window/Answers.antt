use Rattle.std.proofs.Common.{refl, ap, length, [], ◌∷◌, ℕ, List, Vec, Option, subst, arith}
use Rattle.std.specs.Global.{Global}
use Rattle.std.proofs.lemmas.List.{length-append}
use Rattle.racp_trees.specs.Readers.{IsGoneOn}
use Rattle.racp_trees.specs.declared.branch.Branch.{Branch}
use Rattle.racp_trees.proofs.Closing.{passing_first, last_branch, passing_stays, passing_closed, passing_child, child_places, child_stays, passing_ends}
use Rattle.racp_trees.specs.declared.reader.Reader.{Reader}
use Rattle.racp_trees.proofs.reader.Reader.next_window.Goals as goal

pub loop-branch-init : goal.loop-branch-init
loop-branch-init g c = passing_first c.args.ground.now.net.now c.args.ground.now.capacities.now c.args.ground.now.root.now c.args.self.now c.requires.ready

pub go_on-requires-clause-branch : goal.go_on-requires-clause-branch
go_on-requires-clause-branch g c =
    last_branch c.args.ground.now.net.now c.args.ground.now.capacities.now c.args.ground.now.root.now c.args.self.now c.loop-branch.self c.loop-branch.self c.pop.new.self.items c.in-Some.branch c.requires.capacities c.requires.root.upper c.loop-branch.invariant c.in-Some.ensures.items

pub loop-branch-smaller : goal.loop-branch-smaller
loop-branch-smaller g c =
    let p = c.args.ground.now.net.now in
    let a : List ℕ = c.args.ground.now.capacities.now in
    let popped : Reader = record { closed = c.loop-branch.self.closed; branches = c.pop.new.self; number = c.loop-branch.self.number; usual = c.loop-branch.self.usual } in
    let g = subst (λ (o : Option (Vec ℕ Global)). IsGoneOn p a popped c.in-Some.branch c.go_on.new.self o) c.in_default-2.is c.in_ok-lower.ensures.gone in
    omega (arith, ap (λ (xs : List Branch). length xs) g.0.1, ap (λ (xs : List Branch). length xs) c.in-Some.ensures.items, length-append c.pop.new.self.items (c.in-Some.branch ∷ []))

pub returns-clause-ready : goal.returns-clause-ready
returns-clause-ready g c =
    passing_stays c.args.ground.now.net.now c.args.ground.now.capacities.now c.args.ground.now.root.now c.args.self.now c.loop-branch.self (record { closed = c.loop-branch.self.closed; branches = c.pop.new.self; number = c.loop-branch.self.number; usual = c.loop-branch.self.usual })
    c.loop-branch.invariant c.in_default.ensures.items refl refl

pub returns-in-Some-2-clause-window : goal.returns-in-Some-2-clause-window
returns-in-Some-2-clause-window g c =
    let p = c.args.ground.now.net.now in
    let a : List ℕ = c.args.ground.now.capacities.now in
    let popped : Reader = record { closed = c.loop-branch.self.closed; branches = c.pop.new.self; number = c.loop-branch.self.number; usual = c.loop-branch.self.usual } in
    let g = subst (λ (o : Option (Vec ℕ Global)). IsGoneOn p a popped c.in-Some.branch c.go_on.new.self o) c.in-Some-2.is c.in_ok-lower.ensures.gone in (
      child_places p a c.args.ground.now.root.now c.args.self.now c.loop-branch.self c.go_on.new.self c.pop.new.self.items c.in-Some.branch c.requires.capacities c.requires.root.upper c.loop-branch.invariant c.in-Some.ensures.items g.0 c.in-Some-2.lower.items g.1 g.2 g.3 g.4 g.5 g.6 g.7,
      g.7.window.small,
      passing_child p a c.args.ground.now.root.now c.args.self.now c.loop-branch.self c.go_on.new.self c.pop.new.self.items c.in-Some.branch c.requires.capacities c.requires.root.upper c.loop-branch.invariant c.in-Some.ensures.items g.0 c.in-Some-2.lower.items g.1 g.2 g.3 g.4 g.5 g.6 g.7,
    )

pub returns-in-Some-2-clause-ready : goal.returns-in-Some-2-clause-ready
returns-in-Some-2-clause-ready g c =
    let p = c.args.ground.now.net.now in
    let a : List ℕ = c.args.ground.now.capacities.now in
    let popped : Reader = record { closed = c.loop-branch.self.closed; branches = c.pop.new.self; number = c.loop-branch.self.number; usual = c.loop-branch.self.usual } in
    let g = subst (λ (o : Option (Vec ℕ Global)). IsGoneOn p a popped c.in-Some.branch c.go_on.new.self o) c.in-Some-2.is c.in_ok-lower.ensures.gone in
    child_stays p a c.args.ground.now.root.now c.args.self.now c.loop-branch.self c.go_on.new.self c.pop.new.self.items c.in-Some.branch c.requires.capacities c.requires.root.upper c.loop-branch.invariant c.in-Some.ensures.items g.0 c.in-Some-2.lower.items g.1 g.2 g.3 g.4 g.5 g.6 g.7

pub loop-branch-preserved : goal.loop-branch-preserved
loop-branch-preserved g c =
    let p = c.args.ground.now.net.now in
    let a : List ℕ = c.args.ground.now.capacities.now in
    let popped : Reader = record { closed = c.loop-branch.self.closed; branches = c.pop.new.self; number = c.loop-branch.self.number; usual = c.loop-branch.self.usual } in
    let g = subst (λ (o : Option (Vec ℕ Global)). IsGoneOn p a popped c.in-Some.branch c.go_on.new.self o) c.in_default-2.is c.in_ok-lower.ensures.gone in
    passing_closed p a c.args.ground.now.root.now c.args.self.now c.loop-branch.self c.go_on.new.self c.pop.new.self.items c.in-Some.branch c.requires.capacities c.requires.root.upper c.loop-branch.invariant c.in-Some.ensures.items g.0.0 g.0.1 g.0.2 g.0.3 g.0.4 g.1

pub returns-clause-window : goal.returns-clause-window
returns-clause-window g c =
    passing_ends c.args.ground.now.net.now c.args.ground.now.capacities.now c.args.ground.now.root.now c.args.self.now c.loop-branch.self (record { closed = c.loop-branch.self.closed; branches = c.pop.new.self; number = c.loop-branch.self.number; usual = c.loop-branch.self.usual })
    c.loop-branch.invariant c.in_default.ensures.items (omega (arith, c.loop-branch.self.branches.ok.0, c.in_default.ensures.cases.0)) refl refl
