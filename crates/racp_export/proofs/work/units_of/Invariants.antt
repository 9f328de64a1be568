use Rattle.std.proofs.Common.{◌≡◌, ◌≤◌, ◌*◌, ◌^◌}
use Rattle.racp_export.specs.Work.{units_before}
use Rattle.racp_export.proofs.work.units_of.Given as goal

abbrev pub invariant-loop-k : goal.invariant-loop-k
invariant-loop-k l = record { sum : l.units ≡ units_before l.net l.i l.k; few : l.units ≤ l.k * 2 ^ 32 }
