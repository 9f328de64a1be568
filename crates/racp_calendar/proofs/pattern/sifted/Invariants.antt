use Rattle.std.proofs.Common.{◌≡◌, ◌≤◌, ◌++◌, drop, vec_len}
use Rattle.racp_calendar.specs.Work.{sifted}
use Rattle.racp_calendar.proofs.pattern.sifted.Given as goal

abbrev pub invariant-loop-day : goal.invariant-loop-day
invariant-loop-day l = (l.free.items ++ sifted l.week l.next (drop l.day-index l.days) ≡ sifted l.week 0 l.days) × (vec_len l.free ≤ l.day-index)
