use Rattle.std.proofs.Common.{◌+◌, string_bytes}
use Rattle.racp_calendar.specs.declared.periods.Period.TheVariants.{Month, Week}
use Rattle.racp_charts.specs.Bands.{band_marks, free_marks, week_axis}
use Rattle.racp_charts.proofs.Pieces.{in_three}
use Rattle.racp_charts.proofs.dates.push_week_axis.Goals as goal

pub returns : goal.returns
unfolding week_axis
returns c =
    let calendar = c.args.workdays.now in
    in_three (string_bytes c.args.text.now) (free_marks calendar c.args.span c.args.top c.args.bottom) (band_marks calendar c.args.span Week c.args.top (c.args.bottom + 11)) (band_marks calendar c.args.span Month (c.args.bottom + 13) (c.args.bottom + 23)) c.in_ok-push_free_marks.ensures c.in_ok-push_marks.ensures c.in_ok-push_marks-2.ensures
