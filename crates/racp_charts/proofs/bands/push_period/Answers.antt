use Rattle.std.proofs.Common.{string_bytes}
use Rattle.racp_charts.specs.Bands.{period_line, period_mark, period_name}
use Rattle.racp_charts.proofs.Pieces.{in_two}
use Rattle.racp_charts.proofs.bands.push_period.Goals as goal

pub returns : goal.returns
unfolding period_mark
returns c =
    in_two (string_bytes c.args.text.now) (period_line c.args.band.workdays.now c.args.band.span c.args.band.period c.args.top c.args.bottom c.args.place) (period_name c.args.band.workdays.now c.args.band.span c.args.band.period 1000 c.args.bottom c.args.place) c.in_ok-push_period_line.ensures c.in_ok-push_name.ensures
