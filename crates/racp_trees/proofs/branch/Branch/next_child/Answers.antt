use Rattle.std.proofs.Common.{refl, inr, List, ℕ, subst, sym, Vec, Option}
use Rattle.std.specs.Global.{Global}
use Rattle.racp_delay.specs.Alternatives.{Splits}
use Rattle.racp_trees.specs.Children.{NoneStays}
use Rattle.racp_trees.specs.Following.{IsNextBehind}
use Rattle.racp_trees.specs.Branches.{open_node, HasLower, IsAlternativeAnswer, IsWindowAnswer}
use Rattle.racp_trees.proofs.Branching.{none_behind_whole}
use Rattle.racp_trees.proofs.branch.Branch.next_child.Goals as goal

pub child_of-requires-clause-gone : goal.child_of-requires-clause-gone
child_of-requires-clause-gone g c =
    let next = (subst (λ (o : Option (Vec ℕ Global)). IsAlternativeAnswer c.args.net.now c.args.capacities.now c.args.self.now o) c.in-Some.is c.in_ok-gone.ensures.next) c.args.capacities.now in
    (next.minimal.delays.0, subst (λ (gone : List ℕ). Splits c.args.self.now.active gone next.minimal.delays.0) (sym c.deref.ensures.value) next.minimal.delays.1)

pub returns-in_default-2-clause-child : goal.returns-in_default-2-clause-child
returns-in_default-2-clause-child g c upper =
    let next : IsNextBehind c.args.net.now (open_node c.args.net.now c.args.capacities.now upper c.args.self.now) c.in-Some.gone.items = (subst (λ (o : Option (Vec ℕ Global)). IsAlternativeAnswer c.args.net.now c.args.capacities.now c.args.self.now o) c.in-Some.is c.in_ok-gone.ensures.next) upper in
    let none : NoneStays c.args.self.now.active c.in-Some.gone.items = subst (λ (gone : List ℕ). NoneStays c.args.self.now.active gone) c.deref.ensures.value (subst (λ (o : Option (Vec ℕ Global)). IsWindowAnswer c.args.net.now c.args.self.now c.deref.result.now o) c.in_default-2.is c.in_ok-lower.ensures) in
    inr (c.in-Some.gone.items, next, none, none_behind_whole c.args.net.now (open_node c.args.net.now c.args.capacities.now upper c.args.self.now) c.in-Some.gone.items next none)

pub returns-clause-child : goal.returns-clause-child
returns-clause-child g c = record {
  gone = c.in-Some.gone.items;
  next = subst (λ (o : Option (Vec ℕ Global)). IsAlternativeAnswer c.args.net.now c.args.capacities.now c.args.self.now o) c.in-Some.is c.in_ok-gone.ensures.next;
  window = subst (λ (gone : List ℕ). HasLower c.args.net.now c.args.self.now gone c.in-Some-2.lower.items) c.deref.ensures.value (subst (λ (o : Option (Vec ℕ Global)). IsWindowAnswer c.args.net.now c.args.self.now c.deref.result.now o) c.in-Some-2.is c.in_ok-lower.ensures);
  read = λ upper. refl;
}
