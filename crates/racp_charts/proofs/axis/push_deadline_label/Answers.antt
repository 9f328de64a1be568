use Rattle.std.proofs.Common.{codes, string_bytes}
use Rattle.racp_calendar.specs.Dates.{last_text}
use Rattle.racp_charts.specs.Drawings.{deadline_label}
use Rattle.racp_charts.proofs.Pieces.{in_three}
use Rattle.racp_charts.proofs.axis.push_deadline_label.Goals as goal

pub returns : goal.returns
unfolding deadline_label
returns c =
    in_three (string_bytes c.args.text.now) (codes "<text class=\"end\" x=\"990\" y=\"18\">deadline ") (last_text c.args.span.calendar c.args.span.last) (codes "</text>\n") c.in_ok-push_str.ensures.bytes c.in_ok-push_last.ensures c.in_ok-push_str-2.ensures.bytes
