use Rattle.std.proofs.Common.{◌≡◌, ◌++◌, flat_map, string_bytes, drop}
use Rattle.racp_export.specs.TaskJuggler.{wait_text}
use Rattle.racp_export.specs.Told.{told_by}
use Rattle.racp_export.proofs.juggler_tasks.push_waits.Given as goal

abbrev pub invariant-loop-link : goal.invariant-loop-link
invariant-loop-link l = string_bytes l.text ++ flat_map (wait_text (told_by l.ground)) (drop l.link-index l.links) ≡ string_bytes l.initial.text ++ flat_map (wait_text (told_by l.ground)) l.links
