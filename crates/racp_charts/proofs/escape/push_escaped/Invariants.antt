use Rattle.std.proofs.Common.{◌≡◌, ◌++◌, flat_map, string_bytes}
use Rattle.racp_charts.specs.Texts.{escape}
use Rattle.racp_charts.proofs.escape.push_escaped.Given as goal

abbrev pub invariant-loop-letter : goal.invariant-loop-letter
invariant-loop-letter l = string_bytes l.text ≡ string_bytes l.initial.text ++ flat_map escape l.yielded
