use Rattle.std.proofs.Common.{◌+◌, codes, string_bytes}
use Rattle.racp_report.specs.Drawings.{drawing_begin, frame}
use Rattle.racp_charts.specs.Drawings.{frame_element}
use Rattle.racp_report.proofs.Pieces.{in_two}
use Rattle.racp_report.proofs.chart.push_frame.Goals as goal

pub returns : goal.returns
unfolding frame
returns c =
    in_two (string_bytes c.args.text.now) (drawing_begin (codes "The tasks over time") (c.args.bottom + 24)) (frame_element c.args.span c.args.bottom) c.in_ok-push_drawing.ensures c.in_ok-push_frame.ensures
