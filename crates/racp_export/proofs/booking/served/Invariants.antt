use Rattle.std.proofs.Common.{◌≡◌, ◌≤◌, ◌+◌, drop}
use Rattle.racp_export.specs.Bookings.{served}
use Rattle.racp_export.proofs.booking.served.Given as goal

abbrev pub invariant-loop-unit : goal.invariant-loop-unit
invariant-loop-unit l = record { sum : l.count + served (drop l.unit-index l.units) l.i ≡ served l.units l.i; few : l.count ≤ l.unit-index }
