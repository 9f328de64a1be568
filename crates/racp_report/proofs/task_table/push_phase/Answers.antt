use Rattle.std.proofs.Common.{codes, string_bytes}
use Rattle.racp_charts.specs.Texts.{escaped}
use Rattle.racp_report.specs.Pages.{padding, phase_row}
use Rattle.racp_report.proofs.Pieces.{in_five}
use Rattle.racp_report.proofs.task_table.push_phase.Goals as goal

pub returns : goal.returns
unfolding phase_row
returns c =
    in_five (string_bytes c.args.text.now) (codes "<tr class=\"phase\"><td class=\"left\" colspan=\"8\"") (padding c.args.depth) (codes "><b>") (escaped c.args.title.now) (codes "</b></td></tr>\n") c.in_ok-push_str.ensures.bytes c.in_ok-push_padding.ensures c.in_ok-push_str-2.ensures.bytes c.in_ok-push_escaped.ensures c.in_ok-push_str-3.ensures.bytes
