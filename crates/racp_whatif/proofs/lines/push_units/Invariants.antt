use Rattle.std.proofs.Common.{◌≡◌, ◌++◌, drop, string_bytes}
use Rattle.racp_whatif.specs.Lines.{each_beside}
use Rattle.racp_whatif.proofs.lines.push_units.Given as goal

abbrev pub invariant-loop-place : goal.invariant-loop-place
invariant-loop-place l = string_bytes l.text ++ each_beside l.called.names.now l.called.jobs l.olds l.place (drop l.place l.news) ≡ string_bytes l.initial.text ++ each_beside l.called.names.now l.called.jobs l.olds 0 l.news
