use Rattle.std.proofs.Common.{codes, string_bytes}
use Rattle.racp_calendar.specs.Dates.{last_text}
use Rattle.racp_charts.specs.Drawings.{evening_text}
use Rattle.racp_charts.proofs.Pieces.{in_two}
use Rattle.racp_charts.proofs.times.push_evening.Goals as goal

pub returns : goal.returns
unfolding evening_text
returns c =
    in_two (string_bytes c.args.text.now) (codes "by the evening of ") (last_text c.args.calendar c.args.end) c.in_ok-push_str.ensures.bytes c.in_ok-push_last.ensures
