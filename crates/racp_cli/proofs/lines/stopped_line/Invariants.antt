use Rattle.std.proofs.Common.{◌≡◌, ◌++◌, drop, codes}
use Rattle.racp_curve.specs.Texts.{spaced}
use Rattle.racp_cli.proofs.lines.stopped_line.Given as goal

abbrev pub invariant-loop-place : goal.invariant-loop-place
invariant-loop-place l = l.text.items ++ spaced (drop l.place l.capacities) ≡ codes "stopped" ++ spaced l.capacities
