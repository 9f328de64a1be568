use Rattle.std.proofs.Common.{◌≡◌, ◌∙◌, ℕ, List, false, true, slice_index_or, [], arith, ap, refl, sym, subst}
use Rattle.racp_delay.specs.Alternatives.{job_lists}
use Rattle.racp_cutset.specs.Covering.{SearchNode}
use Rattle.racp_search.specs.DepthFirst.{SearchFrame, LiesBehind, IsGoneOn, IsNextToLookAt}
use Rattle.racp_search.proofs.Going.{frame_with, list_at, lists_length, gone-same, gone-again, gone-none, taking-start, taking-next, taking-more, taking-end}
use Rattle.racp_search.proofs.frame.Frame.take_all.Goals as goal

pub loop-list-init : goal.loop-list-init
loop-list-init g c = record {
  gone = gone-same g.N.OfNetwork.network c.args.subject.now.capacities c.args.self.now;
  active = refl;
  more = c.requires.more;
  taken = taking-start g.N.OfNetwork.network c.args.self.now.node c.args.self.now.active (job_lists c.args.all.now) c.requires.all c.requires.some c.args.self.now.last c.requires.first;
}

pub take_up-requires-clause-next : goal.take_up-requires-clause-next
take_up-requires-clause-next g c =
    let old = c.args.self.now in
    let k : ℕ = c.loop-list.list-index in
    let here : c.as_slice.result.now ≡ slice_index_or (job_lists c.args.all.now) k [] = list_at c.args.all.now k c.list-item.result c.as_slice.result.now [] c.loop-list-test.true c.list-item.is c.as_slice.ensures in
    let next : IsNextToLookAt g.N.OfNetwork.network old.node old.active c.loop-list.self.last c.as_slice.result.now = taking-next g.N.OfNetwork.network old.node old.active (job_lists c.args.all.now) c.requires.all k c.loop-list.self.last c.as_slice.result.now c.loop-list.invariant.taken (omega (arith, c.loop-list-test.true, lists_length c.args.all.now)) here in
    subst (λ (v : SearchNode). IsNextToLookAt g.N.OfNetwork.network v c.loop-list.self.active c.loop-list.self.last c.as_slice.result.now) (sym c.loop-list.invariant.gone.node)
    (subst (λ (xs : List ℕ). IsNextToLookAt g.N.OfNetwork.network old.node xs c.loop-list.self.last c.as_slice.result.now) (sym c.loop-list.invariant.active) next)

pub loop-list-preserved : goal.loop-list-preserved
loop-list-preserved g c =
    let old = c.args.self.now in
    let k : ℕ = c.loop-list.list-index in
    let here : c.as_slice.result.now ≡ slice_index_or (job_lists c.args.all.now) k [] = list_at c.args.all.now k c.list-item.result c.as_slice.result.now [] c.loop-list-test.true c.list-item.is c.as_slice.ensures in
    record {
      gone = gone-again g.N.OfNetwork.network c.args.subject.now.capacities old c.loop-list.self c.take_up.new.self c.loop-list.invariant.gone c.in_ok-take_up.ensures.further;
      active = c.in_ok-take_up.ensures.taken.active ∙ c.loop-list.invariant.active;
      more = c.in_ok-take_up.ensures.taken.more;
      taken = taking-more g.N.OfNetwork.network old.node old.active (job_lists c.args.all.now) c.requires.all k c.loop-list.self.last c.take_up.new.self.last c.loop-list.invariant.taken (omega (arith, c.loop-list-test.true, lists_length c.args.all.now)) (c.in_ok-take_up.ensures.taken.last ∙ here);
    }

pub returns : goal.returns
returns g c =
    let old = c.args.self.now in
    let f = c.self.inside in
    let is : frame_with f.node f.active f.children.items f.last.items true ≡ c.loop-list.self = ap (frame_with f.node f.active f.children.items f.last.items) (sym (ap (λ (x : SearchFrame). x.more) c.self.view_is ∙ c.loop-list.invariant.more)) ∙ c.self.view_is in
    let none : (starts : List ℕ) → LiesBehind g.N.OfNetwork.network old.node old.active c.loop-list.self.last starts → ⊥ = taking-end g.N.OfNetwork.network old.node old.active (job_lists c.args.all.now) c.requires.all c.loop-list.list-index c.loop-list.self.last c.loop-list.invariant.taken (omega (arith, c.loop-list-test.false, lists_length c.args.all.now)) in
    let here : (starts : List ℕ) → LiesBehind g.N.OfNetwork.network f.node f.active f.last.items starts → ⊥ =
    subst (λ (x : SearchFrame). (starts : List ℕ) → LiesBehind g.N.OfNetwork.network x.node x.active x.last starts → ⊥) (sym c.self.view_is)
    (subst (λ (v : SearchNode). (starts : List ℕ) → LiesBehind g.N.OfNetwork.network v c.loop-list.self.active c.loop-list.self.last starts → ⊥) (sym c.loop-list.invariant.gone.node)
    (subst (λ (xs : List ℕ). (starts : List ℕ) → LiesBehind g.N.OfNetwork.network old.node xs c.loop-list.self.last starts → ⊥) (sym c.loop-list.invariant.active) none)) in
    gone-again g.N.OfNetwork.network c.args.subject.now.capacities old c.loop-list.self (frame_with f.node f.active f.children.items f.last.items false) c.loop-list.invariant.gone
    (subst (λ (x : SearchFrame). IsGoneOn g.N.OfNetwork.network c.args.subject.now.capacities x (frame_with f.node f.active f.children.items f.last.items false)) is
    (gone-none g.N.OfNetwork.network c.args.subject.now.capacities f.node f.active f.last.items f.children.items c.self.invariant.active c.self.invariant.last here))
