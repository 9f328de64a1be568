use Rattle.std.proofs.Common.{◌≡◌, ◌++◌, flat_map, string_bytes, drop}
use Rattle.racp_export.specs.TaskJuggler.{plan_row}
use Rattle.racp_export.specs.Told.{told_by}
use Rattle.racp_export.proofs.task_juggler.push_rows.Given as goal

abbrev pub invariant-loop-row : goal.invariant-loop-row
invariant-loop-row l = string_bytes l.text ++ flat_map (plan_row (told_by l.ground) l.books) (drop l.row-index l.rows) ≡ string_bytes l.initial.text ++ flat_map (plan_row (told_by l.ground) l.books) l.rows
