use Rattle.std.proofs.Common.{◌≡◌, drop}
use Rattle.std.specs.List.{list_all}
use Rattle.racp_export.specs.Bookings.{are_in_turn}
use Rattle.racp_export.proofs.booking.are_in_turn.Given as goal

abbrev pub invariant-loop-unit : goal.invariant-loop-unit
invariant-loop-unit l = list_all (are_in_turn l.net l.starts 0) (drop l.unit-index l.units) ≡ list_all (are_in_turn l.net l.starts 0) l.units
