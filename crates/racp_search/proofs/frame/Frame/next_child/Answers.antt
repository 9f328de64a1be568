use Rattle.std.proofs.Common.{◌≡◌, ◌≤◌, ◌∙◌, List, true, length, arith, sym, subst}
use Rattle.std.proofs.lemmas.List.{append-nil}
use Rattle.racp_search.specs.DepthFirst.{SearchFrame, IsGoneOn, IsUsedUp, child_windows}
use Rattle.racp_search.specs.declared.child.Child.{Child}
use Rattle.racp_search.proofs.Going.{frame_with}
use Rattle.racp_search.proofs.Resting.{is-taken, is-used_up, frame-less}
use Rattle.racp_search.proofs.frame.Frame.next_child.Goals as goal

pub invariant_of-self : goal.invariant_of-self
invariant_of-self g c =
    let f = c.self.inside in
    frame-less g.N.OfNetwork.network f.node f.active f.last.items f.more f.children.items c.pop.new.self.items _ c.pop.ensures.items c.self.invariant

pub returns-in-Some : goal.returns-in-Some
returns-in-Some g c =
    let f = c.self.inside in
    let gone : IsGoneOn g.N.OfNetwork.network c.args.subject.now.capacities c.args.self.now (frame_with f.node f.active f.children.items f.last.items f.more) = subst (λ (x : SearchFrame). IsGoneOn g.N.OfNetwork.network c.args.subject.now.capacities c.args.self.now x) (sym c.self.view_is) c.in_ok-find_children.ensures.further in
    is-taken g.N.OfNetwork.network c.args.subject.now.capacities c.args.self.now f.node f.active f.last.items f.more f.children.items c.pop.new.self.items c.in-Some.child c.in-Some.ensures.items c.self.invariant gone

pub returns : goal.returns
returns g c =
    let f = c.self.inside in
    let gone : IsGoneOn g.N.OfNetwork.network c.args.subject.now.capacities c.args.self.now (frame_with f.node f.active f.children.items f.last.items f.more) = subst (λ (x : SearchFrame). IsGoneOn g.N.OfNetwork.network c.args.subject.now.capacities c.args.self.now x) (sym c.self.view_is) c.in_ok-find_children.ensures.further in
    let full : f.more ≡ true → c.wanted-enough.result ≤ length (child_windows f.children.items) = λ e. subst (λ (x : SearchFrame). x.more ≡ true → c.wanted-enough.result ≤ length x.windows) (sym c.self.view_is) c.in_ok-find_children.ensures.enough e in
    let none : length f.children.items ≡ 0 = omega (arith, f.children.ok.0, c.in_default.ensures.cases.0) in
    let same : f.children.items ≡ c.pop.new.self.items = c.in_default.ensures.items ∙ append-nil c.pop.new.self.items in
    subst (λ (xs : List Child). IsUsedUp g.N.OfNetwork.network c.args.subject.now.capacities c.args.self.now (frame_with f.node f.active xs f.last.items f.more)) same
    (is-used_up g.N.OfNetwork.network c.args.subject.now.capacities c.args.self.now f.node f.active f.last.items f.more f.children.items c.wanted-enough.result none c.wanted-enough.ensures full gone)
