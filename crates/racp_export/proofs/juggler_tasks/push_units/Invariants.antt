use Rattle.std.proofs.Common.{◌≡◌, ◌++◌, string_bytes, drop}
use Rattle.racp_export.specs.TaskJuggler.{bookings_from}
use Rattle.racp_export.proofs.juggler_tasks.push_units.Given as goal

abbrev pub invariant-loop-unit : goal.invariant-loop-unit
invariant-loop-unit l = string_bytes l.text ++ bookings_from l.i l.k l.unit (drop l.unit l.units) ≡ string_bytes l.initial.text ++ bookings_from l.i l.k 0 l.units
