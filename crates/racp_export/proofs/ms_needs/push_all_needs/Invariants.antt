use Rattle.std.proofs.Common.{◌≡◌, ◌++◌, flat_map, string_bytes, drop}
use Rattle.racp_export.specs.MsProject.{row_needs}
use Rattle.racp_export.specs.Told.{told_by}
use Rattle.racp_export.proofs.ms_needs.push_all_needs.Given as goal

abbrev pub invariant-loop-row : goal.invariant-loop-row
invariant-loop-row l = string_bytes l.text ++ flat_map (row_needs (told_by l.ground)) (drop l.row-index l.rows) ≡ string_bytes l.initial.text ++ flat_map (row_needs (told_by l.ground)) l.rows
