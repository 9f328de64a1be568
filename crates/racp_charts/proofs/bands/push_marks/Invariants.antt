use Rattle.std.proofs.Common.{◌≡◌, ◌++◌, string_bytes}
use Rattle.racp_charts.specs.Bands.{period_mark}
use Rattle.racp_charts.specs.Texts.{texts_before}
use Rattle.racp_charts.proofs.bands.push_marks.Given as goal

abbrev pub invariant-loop-place : goal.invariant-loop-place
invariant-loop-place l = string_bytes l.text ≡ string_bytes l.initial.text ++ texts_before (period_mark l.band.workdays.now l.band.span l.band.period l.top l.bottom) l.place
