use Rattle.std.proofs.Common.{◌++◌, ◌∷◌, arith, subst, [], List, Result, Option, IfOk}
use Rattle.std.specs.declared.alloc.AllocError.{AllocError}
use Rattle.racp_model.specs.Window.{Bounds}
use Rattle.std.proofs.lemmas.List.{length-take}
use Rattle.racp_cutset.specs.Kept.{front}
use Rattle.racp_search.specs.DepthFirst.{SearchFrame, IsSearching, IsTaken, IsUsedUp}
use Rattle.racp_search.specs.Steps.{IsTakenAnswer}
use Rattle.racp_search.proofs.Stacks.{last-open}
use Rattle.racp_search.proofs.Popping.{is_next, is_refuted, is_popped, popped-lighter, one_more, first_stay}
use Rattle.racp_search.proofs.depth_first.Stack.next_window.Goals as goal

pub loop-frame-init : goal.loop-frame-init
loop-frame-init g c = record {
  state = c.requires;
  lighter = omega arith;
  kept = first_stay c.args.count c.args.local.now;
}

pub next_child-requires : goal.next_child-requires
next_child-requires g c =
    let at : IsSearching g.N.OfNetwork.network c.args.subject.now.capacities c.args.subject.now.window (c.pop.new.self.items ++ c.in-Some.frame ∷ []) [] = subst (λ (xs : List SearchFrame). IsSearching g.N.OfNetwork.network c.args.subject.now.capacities c.args.subject.now.window xs []) c.in-Some.ensures.items c.loop-frame.invariant.state in
    (last-open g.N.OfNetwork.network c.args.subject.now.capacities c.args.subject.now.window c.pop.new.self.items c.in-Some.frame [] at).same

pub returns-in-Some-child-clause-next : goal.returns-in-Some-child-clause-next
returns-in-Some-child-clause-next g c =
    let taken : IsTaken g.N.OfNetwork.network c.args.subject.now.capacities c.in-Some.frame c.next_child.new.self c.in-Some-child.window = subst (IsTakenAnswer g.N.OfNetwork.network c.args.subject.now.capacities c.in-Some.frame c.next_child.new.self) c.in-Some-child.is (subst (λ (r : Result (Option Bounds) AllocError). IfOk r (IsTakenAnswer g.N.OfNetwork.network c.args.subject.now.capacities c.in-Some.frame c.next_child.new.self)) c.in-Ok.is c.next_child.ensures) in
    is_next g.N.OfNetwork.network c.args.subject.now.capacities c.args.subject.now.window c.args.self.now.frames.items c.loop-frame.self.frames.items c.pop.new.self.items c.in-Some.frame c.next_child.new.self
    c.in-Some-child.window c.time-from.result c.push.new.self.items c.time-from.ensures c.in-Some.ensures.items c.loop-frame.invariant.state c.loop-frame.invariant.lighter taken c.in_ok-push.ensures.items

pub record_frame-requires : goal.record_frame-requires
record_frame-requires g c =
    let used : IsUsedUp g.N.OfNetwork.network c.args.subject.now.capacities c.in-Some.frame c.next_child.new.self = subst (IsTakenAnswer g.N.OfNetwork.network c.args.subject.now.capacities c.in-Some.frame c.next_child.new.self) c.in_default-child.is (subst (λ (r : Result (Option Bounds) AllocError). IfOk r (IsTakenAnswer g.N.OfNetwork.network c.args.subject.now.capacities c.in-Some.frame c.next_child.new.self)) c.in-Ok.is c.next_child.ensures) in
    is_refuted g.N.OfNetwork.network c.args.subject.now.capacities c.args.subject.now.window c.args.self.now.frames.items c.loop-frame.self.frames.items c.pop.new.self.items c.in-Some.frame c.next_child.new.self c.in-Some.ensures.items c.loop-frame.invariant.state used

pub loop-frame-preserved : goal.loop-frame-preserved
loop-frame-preserved g c =
    let used : IsUsedUp g.N.OfNetwork.network c.args.subject.now.capacities c.in-Some.frame c.next_child.new.self = subst (IsTakenAnswer g.N.OfNetwork.network c.args.subject.now.capacities c.in-Some.frame c.next_child.new.self) c.in_default-child.is (subst (λ (r : Result (Option Bounds) AllocError). IfOk r (IsTakenAnswer g.N.OfNetwork.network c.args.subject.now.capacities c.in-Some.frame c.next_child.new.self)) c.in-Ok.is c.next_child.ensures) in
    record {
      state = is_popped g.N.OfNetwork.network c.args.subject.now.capacities c.args.subject.now.window c.args.self.now.frames.items c.loop-frame.self.frames.items c.pop.new.self.items c.in-Some.frame c.next_child.new.self c.in-Some.ensures.items c.loop-frame.invariant.state used;
      lighter = popped-lighter g.N.OfNetwork.network c.args.subject.now.capacities c.args.subject.now.window c.args.self.now.frames.items c.loop-frame.self.frames.items c.pop.new.self.items c.in-Some.frame c.next_child.new.self c.in-Some.ensures.items c.loop-frame.invariant.lighter;
      kept = one_more (front c.args.count c.args.local.now) c.loop-frame.local c.record_frame.ensures.node c.record_frame.new.local c.args.count (omega (arith, length-take c.args.count c.args.local.now.records)) c.loop-frame.invariant.kept c.record_frame.ensures.step;
    }
