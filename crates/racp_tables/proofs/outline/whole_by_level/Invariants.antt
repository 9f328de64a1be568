use Rattle.racp_tables.proofs.Parts.{IsNearestSoFar}
use Rattle.racp_tables.proofs.outline.whole_by_level.Given as goal

abbrev pub invariant-loop-earlier : goal.invariant-loop-earlier
invariant-loop-earlier l = IsNearestSoFar l.levels l.place l.earlier l.number
