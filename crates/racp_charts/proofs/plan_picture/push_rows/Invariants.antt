use Rattle.std.proofs.Common.{◌≡◌, ◌++◌, string_bytes, drop}
use Rattle.racp_charts.specs.Pictures.{rows_from}
use Rattle.racp_charts.proofs.plan_picture.push_rows.Given as goal

abbrev pub invariant-loop-place : goal.invariant-loop-place
invariant-loop-place l = string_bytes l.text ++ rows_from l.span l.place (drop l.place l.rows) ≡ string_bytes l.initial.text ++ rows_from l.span 0 l.rows
