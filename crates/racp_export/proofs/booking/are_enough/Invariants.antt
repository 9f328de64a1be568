use Rattle.std.proofs.Common.{◌≡◌, ◌<◌, ℕ}
use Rattle.racp_export.specs.Bookings.{served, wanted}
use Rattle.racp_export.proofs.booking.are_enough.Given as goal

abbrev pub invariant-loop-i : goal.invariant-loop-i
invariant-loop-i l = (i : ℕ) → i < l.i → served l.units i ≡ wanted l.net l.k i
