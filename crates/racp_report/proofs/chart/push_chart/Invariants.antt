use Rattle.std.proofs.Common.{◌≡◌, ◌++◌, string_bytes, length, drop}
use Rattle.racp_report.specs.Drawings.{row_blocks}
use Rattle.racp_report.proofs.chart.push_chart.Given as goal

abbrev pub invariant-loop-place : goal.invariant-loop-place
invariant-loop-place l = string_bytes l.text ++ row_blocks l.span (length l.rows) l.place (drop l.place l.rows) ≡ string_bytes l.initial.text ++ row_blocks l.span (length l.rows) 0 l.rows
