use Rattle.std.proofs.Common.{arith, sym, subst}
use Rattle.racp_cutset.specs.Kept.{Kept, StayKept, front}
use Rattle.racp_search.specs.Steps.{IsClosed, IsEntered, IsNext, IsNextAnswer}
use Rattle.racp_search.proofs.Popping.{first_stay}
use Rattle.racp_search.proofs.depth_first.Stack.step.Goals as goal

pub returns-in_err-starts-clause-kept : goal.returns-in_err-starts-clause-kept
returns-in_err-starts-clause-kept g c = subst (λ (kept : Kept). StayKept (front c.args.count c.args.local.now) kept) (sym c.enter.ensures.kept) (first_stay c.args.count c.args.local.now)

pub returns-in-Some-clause-kept : goal.returns-in-Some-clause-kept
returns-in-Some-clause-kept g c = subst (λ (kept : Kept). StayKept (front c.args.count c.args.local.now) kept) (sym c.enter.ensures.kept) (first_stay c.args.count c.args.local.now)

pub returns-in-Some-clause-step : goal.returns-in-Some-clause-step
returns-in-Some-clause-step g c = subst (IsEntered g.N.OfNetwork.network c.args.subject.now.capacities c.args.subject.now.window c.args.self.now.frames.items c.args.next.window c.enter.new.self.frames.items) c.in-Some.is c.in_ok-starts.ensures.entered

pub next_window-requires : goal.next_window-requires
next_window-requires g c =
    let closed : IsClosed g.N.OfNetwork.network c.args.subject.now.capacities c.args.subject.now.window c.args.self.now.frames.items c.args.next.window c.enter.new.self.frames.items = subst (IsEntered g.N.OfNetwork.network c.args.subject.now.capacities c.args.subject.now.window c.args.self.now.frames.items c.args.next.window c.enter.new.self.frames.items) c.in_default.is c.in_ok-starts.ensures.entered in
    closed.state

pub returns-in_err-next-clause-kept : goal.returns-in_err-next-clause-kept
returns-in_err-next-clause-kept g c = subst (λ (kept : Kept). StayKept (front c.args.count kept) c.next_window.new.local) c.enter.ensures.kept c.next_window.ensures.kept

pub returns-in-Some-2-clause-step : goal.returns-in-Some-2-clause-step
returns-in-Some-2-clause-step g c =
    let closed : IsClosed g.N.OfNetwork.network c.args.subject.now.capacities c.args.subject.now.window c.args.self.now.frames.items c.args.next.window c.enter.new.self.frames.items = subst (IsEntered g.N.OfNetwork.network c.args.subject.now.capacities c.args.subject.now.window c.args.self.now.frames.items c.args.next.window c.enter.new.self.frames.items) c.in_default.is c.in_ok-starts.ensures.entered in
    let next : IsNext g.N.OfNetwork.network c.args.subject.now.capacities c.args.subject.now.window c.enter.new.self.frames.items c.in-Some-2.next c.next_window.new.self.frames.items = subst (IsNextAnswer g.N.OfNetwork.network c.args.subject.now.capacities c.args.subject.now.window c.enter.new.self.frames.items c.next_window.new.self.frames.items) c.in-Some-2.is c.in_ok-next.ensures.next in
    record { state = next.state; higher = next.higher; lighter = omega (arith, next.lighter, closed.lighter) }

pub returns-in-Some-2-clause-kept : goal.returns-in-Some-2-clause-kept
returns-in-Some-2-clause-kept g c = subst (λ (kept : Kept). StayKept (front c.args.count kept) c.next_window.new.local) c.enter.ensures.kept c.next_window.ensures.kept

pub returns-in-None-clause-step : goal.returns-in-None-clause-step
returns-in-None-clause-step g c = subst (IsNextAnswer g.N.OfNetwork.network c.args.subject.now.capacities c.args.subject.now.window c.enter.new.self.frames.items c.next_window.new.self.frames.items) c.in-None.is c.in_ok-next.ensures.next

pub returns-in-None-clause-kept : goal.returns-in-None-clause-kept
returns-in-None-clause-kept g c = subst (λ (kept : Kept). StayKept (front c.args.count kept) c.next_window.new.local) c.enter.ensures.kept c.next_window.ensures.kept
