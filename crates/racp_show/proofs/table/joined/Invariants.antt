use Rattle.std.proofs.Common.{◌≡◌, ◌++◌, drop, string_bytes}
use Rattle.racp_show.specs.Tables.{joined}
use Rattle.racp_show.proofs.table.joined.Given as goal

abbrev pub invariant-loop-place : goal.invariant-loop-place
invariant-loop-place l = string_bytes l.text ++ joined l.place (drop l.place l.numbers) ≡ joined 0 l.numbers
