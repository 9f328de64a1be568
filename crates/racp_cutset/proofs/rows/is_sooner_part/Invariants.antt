use Rattle.std.proofs.Common.{◌↔◌, IsTrue}
use Rattle.racp_cutset.specs.Rows.{IsSoonerWithin}
use Rattle.racp_cutset.proofs.rows.is_sooner_part.Given as goal

abbrev pub invariant-loop-i : goal.invariant-loop-i
invariant-loop-i l = IsTrue l.holds ↔ IsSoonerWithin l.first l.limit l.second l.from l.i
