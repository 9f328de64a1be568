use Rattle.std.proofs.Common.{◌-◌, ℕ, ap, string_bytes}
use Rattle.racp_calendar.specs.declared.periods.Period.TheVariants.{Month, Week}
use Rattle.racp_charts.specs.Bands.{band_names, weeks_above}
use Rattle.racp_charts.proofs.Pieces.{in_two_as}
use Rattle.racp_charts.proofs.dates.push_weeks_above.Goals as goal

pub returns : goal.returns
unfolding weeks_above
returns c =
    let calendar = c.args.workdays.now in
    let months = λ (y : ℕ). band_names calendar c.args.span Month 850 y in
    in_two_as (string_bytes c.args.text.now) (band_names calendar c.args.span Week 1000 c.args.y) (months (c.args.y - 16)) (months c.saturating_sub.result) (ap months c.saturating_sub.ensures) c.in_ok-push_names.ensures c.in_ok-push_names-2.ensures
