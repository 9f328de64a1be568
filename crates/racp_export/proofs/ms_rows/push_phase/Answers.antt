use Rattle.std.proofs.Common.{string_bytes}
use Rattle.racp_export.specs.MsProject.{kind_lines, phase_lines, row_end}
use Rattle.racp_export.proofs.Pieces.{in_two}
use Rattle.racp_export.proofs.ms_rows.push_phase.Goals as goal

pub returns : goal.returns
unfolding phase_lines
returns c =
    in_two (string_bytes c.args.text.now) (kind_lines 0 1) row_end c.in_ok-push_kind.ensures c.in_ok-push_str.ensures.bytes
