use Rattle.std.proofs.Common.{◌+◌, ◌<◌, ◌≤◌, ℕ, List, slice_index, arith, subst, sym, refl}
use Rattle.racp_model.specs.Project.{duration}
use Rattle.racp_delay.proofs.ActiveSets.{AreActiveBelow, active-none, active-more, active-same, active-end}
use Rattle.racp_delay.proofs.conflicts.active_at.Goals as goal
use Rattle.racp_delay.proofs.conflicts.active_at.Goals.{then-starts-i+then-time-starts, else-starts-i, else-starts-i-via-then-starts-i+else-time-starts, else-starts-i-via-else-starts-i}

pub loop-i-init : goal.loop-i-init
loop-i-init c = subst (λ (xs : List ℕ). AreActiveBelow c.args.net.now c.args.starts.now c.args.time 0 xs) (sym c.new-active.ensures) (active-none c.args.net.now c.args.starts.now c.args.time)

pub loop-i-preserved : goal.loop-i-preserved
loop-i-preserved c = elim c.if-starts-i.branch [
  | then-starts-i+then-time-starts w ↦ rw w.active-is
      (active-more c.args.net.now c.args.starts.now c.args.time c.loop-i.i _ c.loop-i.active _ c.loop-i.invariant refl (record { started = omega (arith, w.if-starts-i.true); runs = omega (arith, w.if-time-starts.true, w.duration.ensures) }) w.insert.ensures.inserted w.insert.ensures.jobs)
  | else-starts-i w ↦ rw w.active-is (active-same c.args.net.now c.args.starts.now c.args.time c.loop-i.i c.loop-i.active c.loop-i.invariant
      (λ x.
      let started : slice_index c.args.starts.now c.loop-i.i ≤ c.args.time = x.started in
      let runs : c.args.time < slice_index c.args.starts.now c.loop-i.i + duration c.args.net.now c.loop-i.i = x.runs in
      elim w.else-starts-i.branch [
        | else-starts-i-via-then-starts-i+else-time-starts w' ↦ omega (arith, w'.if-time-starts.false, w'.duration.ensures)
        | else-starts-i-via-else-starts-i w' ↦ omega (arith, w'.if-starts-i.false)
      ]))
]

pub returns : goal.returns
returns c = active-end c.args.net.now c.args.starts.now c.args.time c.loop-i.i c.loop-i.active (omega arith) c.loop-i.invariant
