use Rattle.std.proofs.Common.{◌≡◌, ◌++◌, string_bytes, drop}
use Rattle.racp_export.specs.TaskJuggler.{all_bookings}
use Rattle.racp_export.proofs.juggler_tasks.push_bookings.Given as goal

abbrev pub invariant-loop-k : goal.invariant-loop-k
invariant-loop-k l = string_bytes l.text ++ all_bookings l.i l.k (drop l.k l.books) ≡ string_bytes l.initial.text ++ all_bookings l.i 0 l.books
