use Rattle.std.proofs.Common.{◌≡◌, ◌++◌, string_bytes}
use Rattle.racp_export.specs.TaskJuggler.{days_before}
use Rattle.racp_export.proofs.juggler_frame.push_days.Given as goal

abbrev pub invariant-loop-day : goal.invariant-loop-day
invariant-loop-day l = string_bytes l.text ≡ string_bytes l.initial.text ++ days_before l.calendar l.day
