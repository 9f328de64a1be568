use Rattle.std.proofs.Common.{◌≡◌, ◌++◌, take}
use Rattle.racp_clauses.proofs.root.row_of.Given as goal

abbrev pub invariant-loop-start : goal.invariant-loop-start
invariant-loop-start l = l.row.items ≡ take l.start-index l.starts

abbrev pub invariant-loop-unit : goal.invariant-loop-unit
invariant-loop-unit l = l.row.items ≡ l.starts ++ take l.unit-index l.units
