use Rattle.std.proofs.Common.{◌≡◌, ◌∙◌, ℕ, List, All, true, false, Bool, length, ◌<◌, arith, ap, sym, subst}
use Rattle.racp_model.specs.Project.{Project, IsNumber}
use Rattle.racp_delay.proofs.lemmas.Conflicts.{conflict_numbers}
use Rattle.racp_search.specs.DepthFirst.{SearchFrame, IsGoneOn, IsNextToLookAt, steps_left}
use Rattle.racp_search.proofs.Going.{frame_with, gone-none, some-left}
use Rattle.racp_search.proofs.Resting.{if_ok_more}
use Rattle.racp_search.proofs.Freeing.{same_following, is_last, is_next, next-free, none-behind}
use Rattle.racp_search.proofs.frame.Frame.find_child.Goals as goal

pub find_behind-requires-clause-active : goal.find_behind-requires-clause-active
find_behind-requires-clause-active g c =
    let f = c.self.inside in
    let numbers : All (IsNumber (length g.N.OfNetwork.network.jobs)) f.active = conflict_numbers g.N.OfNetwork.network f.node.capacities f.node.early f.node.time f.active c.self.invariant.active.conflict in
    subst (λ (p : Project). All (IsNumber (length p.jobs)) f.active) (sym c.network-net.ensures.named) numbers

pub returns-in-Ok-false-clause-further : goal.returns-in-Ok-false-clause-further
returns-in-Ok-false-clause-further g c =
    let f = c.self.inside in
    let more : f.more ≡ true = ap (λ (x : SearchFrame). x.more) c.self.view_is ∙ c.requires.more in
    let same : c.capacities-capacities.result.now ≡ f.node.capacities = c.capacities-capacities.ensures ∙ (sym c.requires.same ∙ ap (λ (x : SearchFrame). x.node.capacities) (sym c.self.view_is)) in
    let found = same_following c.network-net.result.now g.N.OfNetwork.network c.capacities-capacities.result.now f.node.capacities f.active c.free_of-free.result c.deref.result.now f.last.items c.in-Ok-false.field-0 c.find_behind.new.self c.network-net.ensures.named same c.deref.ensures.value c.in-Ok-false.ensures.found in
    let old : frame_with f.node f.active f.children.items f.last.items true ≡ c.args.self.now = ap (frame_with f.node f.active f.children.items f.last.items) (sym more) ∙ c.self.view_is in
    subst (λ (x : SearchFrame). IsGoneOn g.N.OfNetwork.network c.args.subject.now.capacities x (frame_with f.node f.active f.children.items f.last.items false)) old
    (gone-none g.N.OfNetwork.network c.args.subject.now.capacities f.node f.active f.last.items f.children.items c.self.invariant.active c.self.invariant.last
    (none-behind g.N.OfNetwork.network f.node f.active c.free_of-free.result f.last.items c.self.invariant.active c.each_has_child.ensures c.subsets_go.ensures c.others_stay.ensures c.free_of-free.ensures
    (is_last g.N.OfNetwork.network f.node.capacities f.active c.free_of-free.result f.last.items c.in-Ok-false.field-0 c.find_behind.new.self c.in-Ok-false.field-0-test found)))

pub returns-in-Ok-false-clause-fewer : goal.returns-in-Ok-false-clause-fewer
returns-in-Ok-false-clause-fewer g c =
    let f = c.self.inside in
    let old : frame_with f.node f.active f.children.items f.last.items true ≡ c.args.self.now = ap (frame_with f.node f.active f.children.items f.last.items) (sym (ap (λ (x : SearchFrame). x.more) c.self.view_is ∙ c.requires.more)) ∙ c.self.view_is in
    subst (λ (x : SearchFrame). 0 < steps_left x.more x.last) old
    (some-left g.N.OfNetwork.network c.args.subject.now.capacities f.node f.active f.last.items f.children.items c.self.invariant.active c.self.invariant.last)

pub take_up-requires-clause-more : goal.take_up-requires-clause-more
take_up-requires-clause-more g c = c.requires.more

pub take_up-requires-clause-next : goal.take_up-requires-clause-next
take_up-requires-clause-next g c =
    let f = c.self.inside in
    let same : c.capacities-capacities.result.now ≡ f.node.capacities = c.capacities-capacities.ensures ∙ (sym c.requires.same ∙ ap (λ (x : SearchFrame). x.node.capacities) (sym c.self.view_is)) in
    let found = same_following c.network-net.result.now g.N.OfNetwork.network c.capacities-capacities.result.now f.node.capacities f.active c.free_of-free.result c.deref.result.now f.last.items c.in-Ok-true.field-0 c.find_behind.new.self c.network-net.ensures.named same c.deref.ensures.value c.in-Ok-true.ensures.found in
    let gone = c.find_behind.new.self in
    let now : IsNextToLookAt g.N.OfNetwork.network f.node f.active f.last.items gone =
    next-free g.N.OfNetwork.network f.node f.active c.free_of-free.result f.last.items c.self.invariant.active c.each_has_child.ensures c.subsets_go.ensures c.others_stay.ensures c.free_of-free.ensures gone
    (is_next g.N.OfNetwork.network f.node.capacities f.active c.free_of-free.result f.last.items c.in-Ok-true.field-0 gone c.in-Ok-true.field-0-test found) in
    subst (λ (xs : List ℕ). IsNextToLookAt g.N.OfNetwork.network c.args.self.now.node c.args.self.now.active c.args.self.now.last xs) (sym c.jobs.ensures)
    (subst (λ (x : SearchFrame). IsNextToLookAt g.N.OfNetwork.network x.node x.active x.last gone) c.self.view_is now)

pub returns-in-Err-Stopped-clause-fewer : goal.returns-in-Err-Stopped-clause-fewer
returns-in-Err-Stopped-clause-fewer g c =
    let f = c.self.inside in
    let old : frame_with f.node f.active f.children.items f.last.items true ≡ c.args.self.now = ap (frame_with f.node f.active f.children.items f.last.items) (sym (ap (λ (x : SearchFrame). x.more) c.self.view_is ∙ c.requires.more)) ∙ c.self.view_is in
    let some : 0 < steps_left c.args.self.now.more c.args.self.now.last = subst (λ (x : SearchFrame). 0 < steps_left x.more x.last) old
    (some-left g.N.OfNetwork.network c.args.subject.now.capacities f.node f.active f.last.items f.children.items c.self.invariant.active c.self.invariant.last) in
    let last : List ℕ = c.settle.new.self.last in
    if_ok_more c.settle.result (λ _. c.settle.new.self.more ≡ false) (λ _. steps_left c.settle.new.self.more last < steps_left c.args.self.now.more c.args.self.now.last)
    (λ x none. omega (arith, some, ap (λ (b : Bool). steps_left b last) none)) c.settle.ensures.done
