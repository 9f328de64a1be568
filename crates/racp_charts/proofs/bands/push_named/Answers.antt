use Rattle.std.proofs.Common.{codes, string_bytes}
use Rattle.racp_calendar.specs.Periods.{period_text}
use Rattle.racp_charts.specs.Axes.{mark_begin}
use Rattle.racp_charts.specs.Bands.{name_element}
use Rattle.racp_charts.proofs.Pieces.{in_three}
use Rattle.racp_charts.proofs.bands.push_named.Goals as goal

pub returns : goal.returns
unfolding name_element
returns c =
    in_three (string_bytes c.args.text.now) (mark_begin c.args.x c.args.y) (period_text c.args.period c.args.first) (codes "</text>\n") c.in_ok-push_begin.ensures c.in_ok-push_name.ensures c.in_ok-push_str.ensures.bytes
