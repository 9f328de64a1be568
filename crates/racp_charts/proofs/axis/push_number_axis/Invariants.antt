use Rattle.std.proofs.Common.{◌≡◌, ◌++◌, string_bytes}
use Rattle.racp_charts.specs.Axes.{time_below}
use Rattle.racp_charts.specs.Texts.{texts_before}
use Rattle.racp_charts.proofs.axis.push_number_axis.Given as goal

abbrev pub invariant-loop-place : goal.invariant-loop-place
invariant-loop-place l = string_bytes l.text ≡ string_bytes l.initial.text ++ texts_before (time_below l.span l.top l.bottom) l.place
