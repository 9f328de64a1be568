use Rattle.std.proofs.Common.{◌≡◌, ◌++◌, string_bytes}
use Rattle.racp_export.specs.TaskJuggler.{staff_before}
use Rattle.racp_export.specs.Told.{told_by}
use Rattle.racp_export.proofs.juggler_frame.push_staff.Given as goal

abbrev pub invariant-loop-k : goal.invariant-loop-k
invariant-loop-k l = string_bytes l.text ≡ string_bytes l.initial.text ++ staff_before (told_by l.ground) l.k
