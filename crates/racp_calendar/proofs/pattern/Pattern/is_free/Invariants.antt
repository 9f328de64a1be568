use Rattle.std.proofs.Common.{◌≡◌, drop}
use Rattle.racp_calendar.specs.Work.{is_free}
use Rattle.racp_calendar.proofs.pattern.Pattern.is_free.Given as goal

abbrev pub invariant-loop-free : goal.invariant-loop-free
invariant-loop-free l = is_free (drop l.free-index l.self.free.items) l.day ≡ is_free l.self.free.items l.day
