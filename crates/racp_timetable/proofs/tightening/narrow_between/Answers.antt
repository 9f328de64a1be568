use Rattle.racp_timetable.proofs.Moving.{narrowed-on, narrowed-no}
use Rattle.racp_timetable.proofs.tightening.narrow_between.Goals as goal
use Rattle.racp_timetable.proofs.tightening.narrow_between.Goals.{else-from-time-via-then-from-time+then-time-next+else-not-narrow_at, else-from-time-via-then-from-time+else-time-next, else-from-time-via-else-from-time}

pub returns-then-not-narrow_at : goal.returns-then-not-narrow_at
returns-then-not-narrow_at c =
    narrowed-no c.args.net.now c.args.capacities.now c.args.from c.args.window.now c.loop-k.window c.narrow_at.new.window c.narrow_at.result c.loop-k.invariant (c.narrow_at.ensures c.args.from c.if-from-time.true) c.if-not-narrow_at.true

pub loop-k-preserved : goal.loop-k-preserved
loop-k-preserved c = elim c.else-from-time.branch [
  | else-from-time-via-then-from-time+then-time-next+else-not-narrow_at w ↦
      rw w.window-is
      (narrowed-on c.args.net.now c.args.capacities.now c.args.from c.args.window.now c.loop-k.window w.narrow_at.new.window w.narrow_at.result c.loop-k.invariant (w.narrow_at.ensures c.args.from w.if-from-time.true) w.if-not-narrow_at.false)
  | else-from-time-via-then-from-time+else-time-next w ↦ rw w.window-is c.loop-k.invariant
  | else-from-time-via-else-from-time w ↦ rw w.window-is c.loop-k.invariant
]
