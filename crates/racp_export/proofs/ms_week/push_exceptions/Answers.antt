use Rattle.std.proofs.Common.{flat_map, string_bytes}
use Rattle.racp_calendar.specs.Told.{free_days}
use Rattle.racp_export.proofs.Pieces.{in_three}
use Rattle.racp_export.specs.MsProject.{exception_line, exceptions_begin, exceptions_end, exceptions_text}
use Rattle.racp_export.proofs.ms_week.push_exceptions.Goals as goal

pub returns : goal.returns
unfolding exceptions_text
returns c =
    in_three (string_bytes c.args.text.now) exceptions_begin (flat_map (exception_line c.args.calendar) (free_days c.args.calendar)) exceptions_end c.in_ok-push_str.ensures.bytes c.in_ok-push_each_exception.ensures c.in_ok-push_str-2.ensures.bytes
