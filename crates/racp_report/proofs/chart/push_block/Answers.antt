use Rattle.std.proofs.Common.{◌+◌, ◌*◌, ◌%◌, string_bytes}
use Rattle.racp_charts.specs.Drawings.{row_element}
use Rattle.racp_report.specs.Drawings.{block_begin, block_end, row_block}
use Rattle.racp_report.proofs.Pieces.{in_three}
use Rattle.racp_report.proofs.chart.push_block.Goals as goal

pub returns : goal.returns
unfolding row_block
returns c =
    in_three (string_bytes c.args.text.now) (block_begin c.args.span c.args.count c.args.place) (row_element c.args.span c.args.row.now (40 + c.args.place % 30 * 20)) (block_end c.args.count c.args.place) c.in_ok-push_block_begin.ensures c.in_ok-push_row.ensures c.in_ok-push_block_end.ensures
