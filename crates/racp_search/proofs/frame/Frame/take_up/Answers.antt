use Rattle.std.proofs.Common.{◌≡◌, ◌∙◌, ◌++◌, ◌<◌, Bool, ℕ, List, true, ap, sym, subst}
use Rattle.racp_model.specs.Terms.{IsLexBefore}
use Rattle.racp_search.specs.Children.{IsChildFor, IsChildAnswer, IsEmptyChild}
use Rattle.racp_search.specs.declared.child.Child.{Child}
use Rattle.racp_search.specs.DepthFirst.{SearchFrame, IsFrame, IsGoneOn, IsNextToLookAt, steps_left}
use Rattle.racp_search.proofs.Going.{frame_with, not_first, gone_are_jobs, fewer-left, gone-child, gone-empty, frame-child, frame-empty}
use Rattle.racp_search.proofs.frame.Frame.take_up.Goals as goal

pub child_of-requires-clause-some : goal.child_of-requires-clause-some
child_of-requires-clause-some g c =
    let f = c.self.inside in
    let now : IsNextToLookAt g.N.OfNetwork.network f.node f.active f.last.items c.args.gone.now = subst (λ (x : SearchFrame). IsNextToLookAt g.N.OfNetwork.network x.node x.active x.last c.args.gone.now) (sym c.self.view_is) c.requires.next in
    (λ none. not_first f.last.items (subst (λ (xs : List ℕ). IsLexBefore f.last.items xs) none now.behind))

pub child_of-requires-clause-splits : goal.child_of-requires-clause-splits
child_of-requires-clause-splits g c =
    let f = c.self.inside in
    let now : IsNextToLookAt g.N.OfNetwork.network f.node f.active f.last.items c.args.gone.now = subst (λ (x : SearchFrame). IsNextToLookAt g.N.OfNetwork.network x.node x.active x.last c.args.gone.now) (sym c.self.view_is) c.requires.next in
    (now.minimal.delays.0, now.minimal.delays.1)

pub invariant_of-self-in-Continue-branch-3 : goal.invariant_of-self-in-Continue-branch-3
invariant_of-self-in-Continue-branch-3 g c =
    let f = c.self.inside in
    let now : IsNextToLookAt g.N.OfNetwork.network f.node f.active f.last.items c.args.gone.now = subst (λ (x : SearchFrame). IsNextToLookAt g.N.OfNetwork.network x.node x.active x.last c.args.gone.now) (sym c.self.view_is) c.requires.next in
    let is_gone : c.args.gone.now ≡ c.extend_from_slice.new.self.items = sym (c.in_ok-extend_from_slice.ensures.items ∙ ap (λ (xs : List ℕ). xs ++ c.args.gone.now) c.clear.ensures.items) in
    let last : List ℕ = c.extend_from_slice.new.self.items in
    let next : IsNextToLookAt g.N.OfNetwork.network f.node f.active f.last.items last = subst (λ (xs : List ℕ). IsNextToLookAt g.N.OfNetwork.network f.node f.active f.last.items xs) is_gone now in
    let set = gone_are_jobs g.N.OfNetwork.network f.node f.active last c.network.ensures.sound c.subsets_go.ensures c.self.invariant.active next.minimal in
    let at : IsChildAnswer g.N.OfNetwork.network f.node f.active last c.in_ok-child.child = subst (λ (xs : List ℕ). IsChildAnswer g.N.OfNetwork.network f.node f.active xs c.in_ok-child.child) is_gone c.in_ok-child.ensures in
    let child : IsChildFor g.N.OfNetwork.network f.node f.active last c.in-Some.child.window = subst (IsChildAnswer g.N.OfNetwork.network f.node f.active last) c.in-Some.is at in
    frame-child g.N.OfNetwork.network c.args.subject.now.capacities f.node f.active f.last.items f.children.items c.self.invariant.active c.self.invariant.last last set next f.more c.in-Some.child c.insert.new.children.items c.self.invariant child c.in_ok-insert-in-Some.ensures

pub invariant_of-self-in_err-insert-in-Some : goal.invariant_of-self-in_err-insert-in-Some
invariant_of-self-in_err-insert-in-Some g c =
    let f = c.self.inside in
    let now : IsNextToLookAt g.N.OfNetwork.network f.node f.active f.last.items c.args.gone.now = subst (λ (x : SearchFrame). IsNextToLookAt g.N.OfNetwork.network x.node x.active x.last c.args.gone.now) (sym c.self.view_is) c.requires.next in
    let is_gone : c.args.gone.now ≡ c.extend_from_slice.new.self.items = sym (c.in_ok-extend_from_slice.ensures.items ∙ ap (λ (xs : List ℕ). xs ++ c.args.gone.now) c.clear.ensures.items) in
    let last : List ℕ = c.extend_from_slice.new.self.items in
    let next : IsNextToLookAt g.N.OfNetwork.network f.node f.active f.last.items last = subst (λ (xs : List ℕ). IsNextToLookAt g.N.OfNetwork.network f.node f.active f.last.items xs) is_gone now in
    let set = gone_are_jobs g.N.OfNetwork.network f.node f.active last c.network.ensures.sound c.subsets_go.ensures c.self.invariant.active next.minimal in
    subst (λ (cs : List Child). IsFrame g.N.OfNetwork.network (frame_with f.node f.active cs last f.more)) (sym c.in_err-insert-in-Some.ensures)
    (frame-empty g.N.OfNetwork.network c.args.subject.now.capacities f.node f.active f.last.items f.children.items c.self.invariant.active c.self.invariant.last last set next f.more c.self.invariant)

pub invariant_of-self-in-None : goal.invariant_of-self-in-None
invariant_of-self-in-None g c =
    let f = c.self.inside in
    let now : IsNextToLookAt g.N.OfNetwork.network f.node f.active f.last.items c.args.gone.now = subst (λ (x : SearchFrame). IsNextToLookAt g.N.OfNetwork.network x.node x.active x.last c.args.gone.now) (sym c.self.view_is) c.requires.next in
    let is_gone : c.args.gone.now ≡ c.extend_from_slice.new.self.items = sym (c.in_ok-extend_from_slice.ensures.items ∙ ap (λ (xs : List ℕ). xs ++ c.args.gone.now) c.clear.ensures.items) in
    let last : List ℕ = c.extend_from_slice.new.self.items in
    let next : IsNextToLookAt g.N.OfNetwork.network f.node f.active f.last.items last = subst (λ (xs : List ℕ). IsNextToLookAt g.N.OfNetwork.network f.node f.active f.last.items xs) is_gone now in
    let set = gone_are_jobs g.N.OfNetwork.network f.node f.active last c.network.ensures.sound c.subsets_go.ensures c.self.invariant.active next.minimal in
    frame-empty g.N.OfNetwork.network c.args.subject.now.capacities f.node f.active f.last.items f.children.items c.self.invariant.active c.self.invariant.last last set next f.more c.self.invariant

pub returns-in-None-clause-further : goal.returns-in-None-clause-further
returns-in-None-clause-further g c =
    let f = c.self.inside in
    let now : IsNextToLookAt g.N.OfNetwork.network f.node f.active f.last.items c.args.gone.now = subst (λ (x : SearchFrame). IsNextToLookAt g.N.OfNetwork.network x.node x.active x.last c.args.gone.now) (sym c.self.view_is) c.requires.next in
    let is_gone : c.args.gone.now ≡ c.extend_from_slice.new.self.items = sym (c.in_ok-extend_from_slice.ensures.items ∙ ap (λ (xs : List ℕ). xs ++ c.args.gone.now) c.clear.ensures.items) in
    let last : List ℕ = c.extend_from_slice.new.self.items in
    let next : IsNextToLookAt g.N.OfNetwork.network f.node f.active f.last.items last = subst (λ (xs : List ℕ). IsNextToLookAt g.N.OfNetwork.network f.node f.active f.last.items xs) is_gone now in
    let set = gone_are_jobs g.N.OfNetwork.network f.node f.active last c.network.ensures.sound c.subsets_go.ensures c.self.invariant.active next.minimal in
    let at : IsChildAnswer g.N.OfNetwork.network f.node f.active last c.in_ok-child.child = subst (λ (xs : List ℕ). IsChildAnswer g.N.OfNetwork.network f.node f.active xs c.in_ok-child.child) is_gone c.in_ok-child.ensures in
    let empty : IsEmptyChild g.N.OfNetwork.network f.node f.active last = subst (IsChildAnswer g.N.OfNetwork.network f.node f.active last) c.in-None.is at in
    let more : f.more ≡ true = ap (λ (x : SearchFrame). x.more) c.self.view_is ∙ c.requires.more in
    let old : frame_with f.node f.active f.children.items f.last.items true ≡ c.args.self.now = ap (frame_with f.node f.active f.children.items f.last.items) (sym more) ∙ c.self.view_is in
    subst (λ (b : Bool). IsGoneOn g.N.OfNetwork.network c.args.subject.now.capacities c.args.self.now (frame_with f.node f.active f.children.items last b)) (sym more)
    (subst (λ (x : SearchFrame). IsGoneOn g.N.OfNetwork.network c.args.subject.now.capacities x (frame_with f.node f.active f.children.items last true)) old
    (gone-empty g.N.OfNetwork.network c.args.subject.now.capacities f.node f.active f.last.items f.children.items c.self.invariant.active c.self.invariant.last last set next c.each_has_child.ensures empty))

pub returns-in-None-clause-fewer : goal.returns-in-None-clause-fewer
returns-in-None-clause-fewer g c =
    let f = c.self.inside in
    let now : IsNextToLookAt g.N.OfNetwork.network f.node f.active f.last.items c.args.gone.now = subst (λ (x : SearchFrame). IsNextToLookAt g.N.OfNetwork.network x.node x.active x.last c.args.gone.now) (sym c.self.view_is) c.requires.next in
    let is_gone : c.args.gone.now ≡ c.extend_from_slice.new.self.items = sym (c.in_ok-extend_from_slice.ensures.items ∙ ap (λ (xs : List ℕ). xs ++ c.args.gone.now) c.clear.ensures.items) in
    let last : List ℕ = c.extend_from_slice.new.self.items in
    let next : IsNextToLookAt g.N.OfNetwork.network f.node f.active f.last.items last = subst (λ (xs : List ℕ). IsNextToLookAt g.N.OfNetwork.network f.node f.active f.last.items xs) is_gone now in
    let set = gone_are_jobs g.N.OfNetwork.network f.node f.active last c.network.ensures.sound c.subsets_go.ensures c.self.invariant.active next.minimal in
    let more : f.more ≡ true = ap (λ (x : SearchFrame). x.more) c.self.view_is ∙ c.requires.more in
    let old : frame_with f.node f.active f.children.items f.last.items true ≡ c.args.self.now = ap (frame_with f.node f.active f.children.items f.last.items) (sym more) ∙ c.self.view_is in
    subst (λ (b : Bool). steps_left b last < steps_left c.args.self.now.more c.args.self.now.last) (sym more)
    (subst (λ (x : SearchFrame). steps_left true last < steps_left x.more x.last) old
    (fewer-left g.N.OfNetwork.network c.args.subject.now.capacities f.node f.active f.last.items f.children.items c.self.invariant.active c.self.invariant.last last set next))

pub returns-clause-further : goal.returns-clause-further
returns-clause-further g c =
    let f = c.self.inside in
    let now : IsNextToLookAt g.N.OfNetwork.network f.node f.active f.last.items c.args.gone.now = subst (λ (x : SearchFrame). IsNextToLookAt g.N.OfNetwork.network x.node x.active x.last c.args.gone.now) (sym c.self.view_is) c.requires.next in
    let is_gone : c.args.gone.now ≡ c.extend_from_slice.new.self.items = sym (c.in_ok-extend_from_slice.ensures.items ∙ ap (λ (xs : List ℕ). xs ++ c.args.gone.now) c.clear.ensures.items) in
    let last : List ℕ = c.extend_from_slice.new.self.items in
    let next : IsNextToLookAt g.N.OfNetwork.network f.node f.active f.last.items last = subst (λ (xs : List ℕ). IsNextToLookAt g.N.OfNetwork.network f.node f.active f.last.items xs) is_gone now in
    let set = gone_are_jobs g.N.OfNetwork.network f.node f.active last c.network.ensures.sound c.subsets_go.ensures c.self.invariant.active next.minimal in
    let at : IsChildAnswer g.N.OfNetwork.network f.node f.active last c.in_ok-child.child = subst (λ (xs : List ℕ). IsChildAnswer g.N.OfNetwork.network f.node f.active xs c.in_ok-child.child) is_gone c.in_ok-child.ensures in
    let child : IsChildFor g.N.OfNetwork.network f.node f.active last c.in-Some.child.window = subst (IsChildAnswer g.N.OfNetwork.network f.node f.active last) c.in-Some.is at in
    let more : f.more ≡ true = ap (λ (x : SearchFrame). x.more) c.self.view_is ∙ c.requires.more in
    let old : frame_with f.node f.active f.children.items f.last.items true ≡ c.args.self.now = ap (frame_with f.node f.active f.children.items f.last.items) (sym more) ∙ c.self.view_is in
    subst (λ (b : Bool). IsGoneOn g.N.OfNetwork.network c.args.subject.now.capacities c.args.self.now (frame_with f.node f.active c.insert.new.children.items last b)) (sym more)
    (subst (λ (x : SearchFrame). IsGoneOn g.N.OfNetwork.network c.args.subject.now.capacities x (frame_with f.node f.active c.insert.new.children.items last true)) old
    (gone-child g.N.OfNetwork.network c.args.subject.now.capacities f.node f.active f.last.items f.children.items c.self.invariant.active c.self.invariant.last last set next c.in-Some.child c.insert.new.children.items child c.in_ok-insert-in-Some.ensures))

pub returns-clause-fewer : goal.returns-clause-fewer
returns-clause-fewer g c =
    let f = c.self.inside in
    let now : IsNextToLookAt g.N.OfNetwork.network f.node f.active f.last.items c.args.gone.now = subst (λ (x : SearchFrame). IsNextToLookAt g.N.OfNetwork.network x.node x.active x.last c.args.gone.now) (sym c.self.view_is) c.requires.next in
    let is_gone : c.args.gone.now ≡ c.extend_from_slice.new.self.items = sym (c.in_ok-extend_from_slice.ensures.items ∙ ap (λ (xs : List ℕ). xs ++ c.args.gone.now) c.clear.ensures.items) in
    let last : List ℕ = c.extend_from_slice.new.self.items in
    let next : IsNextToLookAt g.N.OfNetwork.network f.node f.active f.last.items last = subst (λ (xs : List ℕ). IsNextToLookAt g.N.OfNetwork.network f.node f.active f.last.items xs) is_gone now in
    let set = gone_are_jobs g.N.OfNetwork.network f.node f.active last c.network.ensures.sound c.subsets_go.ensures c.self.invariant.active next.minimal in
    let more : f.more ≡ true = ap (λ (x : SearchFrame). x.more) c.self.view_is ∙ c.requires.more in
    let old : frame_with f.node f.active f.children.items f.last.items true ≡ c.args.self.now = ap (frame_with f.node f.active f.children.items f.last.items) (sym more) ∙ c.self.view_is in
    subst (λ (b : Bool). steps_left b last < steps_left c.args.self.now.more c.args.self.now.last) (sym more)
    (subst (λ (x : SearchFrame). steps_left true last < steps_left x.more x.last) old
    (fewer-left g.N.OfNetwork.network c.args.subject.now.capacities f.node f.active f.last.items f.children.items c.self.invariant.active c.self.invariant.last last set next))

pub returns-in-None-clause-taken : goal.returns-in-None-clause-taken
returns-in-None-clause-taken g c =
    let f = c.self.inside in
    let now : IsNextToLookAt g.N.OfNetwork.network f.node f.active f.last.items c.args.gone.now = subst (λ (x : SearchFrame). IsNextToLookAt g.N.OfNetwork.network x.node x.active x.last c.args.gone.now) (sym c.self.view_is) c.requires.next in
    let more : f.more ≡ true = ap (λ (x : SearchFrame). x.more) c.self.view_is ∙ c.requires.more in
    record {
      active = ap (λ (x : SearchFrame). x.active) c.self.view_is;
      last = c.in_ok-extend_from_slice.ensures.items ∙ ap (λ (xs : List ℕ). xs ++ c.args.gone.now) c.clear.ensures.items;
      more = more;
    }

pub returns-clause-taken : goal.returns-clause-taken
returns-clause-taken g c =
    let f = c.self.inside in
    let now : IsNextToLookAt g.N.OfNetwork.network f.node f.active f.last.items c.args.gone.now = subst (λ (x : SearchFrame). IsNextToLookAt g.N.OfNetwork.network x.node x.active x.last c.args.gone.now) (sym c.self.view_is) c.requires.next in
    let more : f.more ≡ true = ap (λ (x : SearchFrame). x.more) c.self.view_is ∙ c.requires.more in
    record {
      active = ap (λ (x : SearchFrame). x.active) c.self.view_is;
      last = c.in_ok-extend_from_slice.ensures.items ∙ ap (λ (xs : List ℕ). xs ++ c.args.gone.now) c.clear.ensures.items;
      more = more;
    }
