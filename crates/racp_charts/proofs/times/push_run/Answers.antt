use Rattle.std.proofs.Common.{◌+◌, codes, string_bytes}
use Rattle.racp_calendar.specs.Dates.{first_text, last_text}
use Rattle.racp_charts.specs.Drawings.{run_text}
use Rattle.racp_charts.proofs.Pieces.{in_four}
use Rattle.racp_charts.proofs.times.push_run.Goals as goal

pub returns : goal.returns
unfolding run_text
returns c =
    in_four (string_bytes c.args.text.now) (codes "from ") (first_text c.args.calendar c.args.start c.args.duration) (codes " to ") (last_text c.args.calendar (c.args.start + c.args.duration)) c.in_ok-push_str.ensures.bytes c.in_ok-push_first.ensures c.in_ok-push_str-2.ensures.bytes c.in_ok-push_last.ensures
