use Rattle.std.proofs.Common.{◌≡◌, drop}
use Rattle.racp_export.specs.Bookings.{serves}
use Rattle.racp_export.proofs.booking.serves.Given as goal

abbrev pub invariant-loop-place : goal.invariant-loop-place
invariant-loop-place l = serves (drop l.place-index l.places) l.i ≡ serves l.places l.i
