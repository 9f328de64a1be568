use Rattle.std.proofs.Common.{◌≡◌, ◌+◌, drop}
use Rattle.racp_calendar.specs.Work.{weekly_place}
use Rattle.racp_calendar.proofs.pattern.Pattern.weekly_place.Given as goal

abbrev pub invariant-loop-free : goal.invariant-loop-free
invariant-loop-free l = (weekly_place l.self.week (drop l.free-index l.self.free.items) l.place ≡ weekly_place l.self.week l.self.free.items l.time) × (l.place ≡ l.time + l.free-index)
