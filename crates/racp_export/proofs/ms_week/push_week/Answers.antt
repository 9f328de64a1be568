use Rattle.std.proofs.Common.{flat_map, string_bytes}
use Rattle.racp_calendar.specs.Told.{free_days}
use Rattle.racp_export.proofs.Pieces.{in_three}
use Rattle.racp_export.specs.MsProject.{free_line, week_before, week_begin, week_text}
use Rattle.racp_export.proofs.ms_week.push_week.Goals as goal

pub returns : goal.returns
unfolding week_text
returns c =
    in_three (string_bytes c.args.text.now) week_begin (week_before c.args.calendar 7) (flat_map (free_line c.args.calendar) (free_days c.args.calendar)) c.in_ok-push_str.ensures.bytes c.in_ok-push_days.ensures c.in_ok-push_free_days.ensures
