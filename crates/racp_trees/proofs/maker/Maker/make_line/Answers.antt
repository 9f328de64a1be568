use Rattle.std.proofs.Common.{refl, ◌∙◌, ◌+◌, ◌≤◌, ℕ, List, All, Option, length, ap, subst, sym, arith}
use Rattle.racp_model.specs.Limits.{most_bound}
use Rattle.racp_model.specs.Window.{Bounds}
use Rattle.racp_trees.specs.Making.{IsChoice}
use Rattle.racp_trees.specs.Readers.{IsLineAnswer}
use Rattle.racp_trees.specs.declared.reader.Reader.{Reader}
use Rattle.racp_trees.specs.declared.step.Step.{Step}
use Rattle.racp_trees.proofs.Advancing.{line_ready}
use Rattle.racp_trees.proofs.Making.{thinned_ready}
use Rattle.racp_trees.proofs.maker.Maker.make_line.Goals as goal

pub choose-requires-clause-lower : goal.choose-requires-clause-lower
choose-requires-clause-lower g c = ap (λ (xs : List ℕ). length xs) c.deref.ensures.value ∙ c.requires.lower

pub choose-requires-clause-small : goal.choose-requires-clause-small
choose-requires-clause-small g c = subst (λ (xs : List ℕ). All (λ x. x ≤ most_bound) xs) (sym c.deref.ensures.value) c.requires.small

pub read_line-requires-clause-ready : goal.read_line-requires-clause-ready
read_line-requires-clause-ready g c =
    let choice = subst (λ (o : Option Step). IsChoice c.args.self.now.reader c.choose.new.self.reader o) c.in-Some.is c.in_ok-step.ensures in
    thinned_ready c.args.ground.now.net.now c.args.ground.now.capacities.now c.args.self.now.reader c.choose.new.self.reader choice.0 c.requires.ready

pub read_line-requires-clause-place : goal.read_line-requires-clause-place
read_line-requires-clause-place g c =
    let choice = subst (λ (o : Option Step). IsChoice c.args.self.now.reader c.choose.new.self.reader o) c.in-Some.is c.in_ok-step.ensures in
    choice.2

pub returns : goal.returns
returns g c holds =
    let p = c.args.ground.now.net.now in
    let a : List ℕ = c.args.ground.now.capacities.now in
    let thin : Reader = c.choose.new.self.reader in
    let read : Reader = c.read_line.new.self in
    let choice = subst (λ (o : Option Step). IsChoice c.args.self.now.reader thin o) c.in-Some.is c.in_ok-step.ensures in
    let new : Reader = record { closed = read.closed; branches = read.branches; number = read.number + 1; usual = read.usual } in
    let window : Bounds = record { lower = c.args.lower.items; upper = c.args.ground.now.root.now.upper } in
    let ready = line_ready p a window thin read new c.in-Some.step c.in_ok-read_line.field-0 (thinned_ready p a c.args.self.now.reader thin choice.0 c.requires.ready) c.in_ok-read_line.ensures.line c.if-not-branch.false refl refl in
    record {
      thin = thin;
      thinned = choice.0;
      step = c.in-Some.step;
      little = choice.1;
      read = read;
      answer = subst (λ yes'. IsLineAnswer p a window thin c.in-Some.step yes' read) c.if-not-branch.false c.in_ok-read_line.ensures.line;
      branches = refl;
      closed = refl;
      number = omega (arith, c.read_line.ensures.number);
      ready = ready.0;
      kept = ready.1;
      added = c.in_ok-push_step.ensures;
    }
