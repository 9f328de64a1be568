use Rattle.std.proofs.Common.{[], ◌∷◌, ap, length, arith}
use Rattle.racp_search.specs.DepthFirst.Part.{all_of}
use Rattle.racp_search.proofs.Leaving.{no-frames, none-there, some-there, first-there, leaving-next, leaving-end}
use Rattle.racp_search.proofs.depth_first.Stack.gather.Goals as goal
use Rattle.racp_search.proofs.depth_first.Stack.gather.Goals.{then-loop-self-test+else-not-is_empty, else-loop-self-test}

pub loop-self-preserved : goal.loop-self-preserved
loop-self-preserved g c =
    let left = c.in_ok-leave_first.ensures in
    leaving-next g.N.OfNetwork.network c.args.subject.now.capacities c.args.subject.now.window c.args.next.now.window c.loop-self.self.frames.items c.leave_first.new.self.frames.items left.frame c.loop-self.rest.items left.more c.leave_first.new.rest.items
    left.taken left.gathered c.loop-self.invariant left.left

pub returns : goal.returns
returns g c =
    leaving-end g.N.OfNetwork.network c.args.subject.now.capacities c.args.subject.now.window c.args.next.now.window c.loop-self.self.frames.items c.loop-self.rest.items c.push.new.self.items c.in_ok-window.window c.in_ok-window.ensures
    (elim c.loop-self-test.branch [
      | then-loop-self-test+else-not-is_empty w ↦ λ none. no-frames c.loop-self.self.frames.items (omega (arith, c.loop-self.self.frames.ok.0, none-there _ w.if-not-is_empty.ensures))
      | else-loop-self-test w ↦ λ none. absurd (omega (arith, c.loop-self.rest.ok.0, ap length none, w.loop-self-test.false))
    ])
    c.in_ok-push.ensures.items c.loop-self.invariant

pub leave_first-requires : goal.leave_first-requires
leave_first-requires g c = first-there g.N.OfNetwork.network c.args.subject.now.capacities c.loop-self.self.frames.items (all_of c.args.next.now.window ∷ []) (omega (arith, c.loop-self.self.frames.ok.0, some-there _ c.if-not-is_empty.ensures)) c.loop-self.invariant.opened

pub loop-self-smaller : goal.loop-self-smaller
loop-self-smaller g c = omega (arith, ap length c.in_ok-leave_first.ensures.taken, c.loop-self.self.frames.ok.0, c.leave_first.new.self.frames.ok.0)
