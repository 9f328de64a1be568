use Rattle.std.proofs.Common.{map, string_bytes}
use Rattle.racp_tables.proofs.Parts.{IsLongestSoFar}
use Rattle.racp_tables.proofs.within.whole_by_id.Given as goal

abbrev pub invariant-loop-earlier : goal.invariant-loop-earlier
invariant-loop-earlier l = IsLongestSoFar (map string_bytes l.ids) l.place l.earlier l.number
