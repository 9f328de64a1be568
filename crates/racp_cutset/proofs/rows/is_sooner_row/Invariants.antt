use Rattle.std.proofs.Common.{◌*◌}
use Rattle.racp_cutset.specs.Rows.{IsSoonerWithin}
use Rattle.racp_cutset.proofs.rows.is_sooner_row.Given as goal

abbrev pub invariant-loop-part : goal.invariant-loop-part
invariant-loop-part l = IsSoonerWithin l.first l.limit l.second 0 (8 * l.part)
