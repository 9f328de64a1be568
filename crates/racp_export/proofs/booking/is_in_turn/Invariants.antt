use Rattle.std.proofs.Common.{◌≡◌, drop}
use Rattle.racp_export.specs.Bookings.{are_in_turn}
use Rattle.racp_export.proofs.booking.is_in_turn.Given as goal

abbrev pub invariant-loop-place : goal.invariant-loop-place
invariant-loop-place l = are_in_turn l.net l.starts l.from (drop l.place-index l.places) ≡ are_in_turn l.net l.starts 0 l.places
