use Rattle.std.proofs.Common.{◌≡◌, ◌++◌, string_bytes}
use Rattle.racp_charts.specs.Bands.{free_mark}
use Rattle.racp_charts.specs.Texts.{texts_before}
use Rattle.racp_charts.proofs.dates.push_free_marks.Given as goal

abbrev pub invariant-loop-place : goal.invariant-loop-place
invariant-loop-place l = string_bytes l.text ≡ string_bytes l.initial.text ++ texts_before (free_mark l.workdays l.span l.top l.bottom) l.place
