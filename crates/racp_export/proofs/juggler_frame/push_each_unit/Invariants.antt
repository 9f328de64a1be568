use Rattle.std.proofs.Common.{◌≡◌, ◌++◌, string_bytes}
use Rattle.racp_export.specs.TaskJuggler.{units_before}
use Rattle.racp_export.proofs.juggler_frame.push_each_unit.Given as goal

abbrev pub invariant-loop-unit : goal.invariant-loop-unit
invariant-loop-unit l = string_bytes l.text ≡ string_bytes l.initial.text ++ units_before l.resource l.title l.unit
