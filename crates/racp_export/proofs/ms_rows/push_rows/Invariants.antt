use Rattle.std.proofs.Common.{◌≡◌, ◌++◌, ◌+◌, [], string_bytes, drop}
use Rattle.racp_export.specs.MsProject.{rows_from}
use Rattle.racp_export.specs.Told.{told_by}
use Rattle.racp_export.proofs.ms_rows.push_rows.Given as goal

abbrev pub invariant-loop-place : goal.invariant-loop-place
invariant-loop-place l = string_bytes l.text ++ rows_from (told_by l.ground) (l.place + 1) l.path.items (drop l.place l.rows) ≡ string_bytes l.initial.text ++ rows_from (told_by l.ground) 1 [] l.rows
