use Rattle.std.proofs.Common.{◌≡◌, ◌+◌, ◌*◌, ◌/◌, ◌%◌, ◌<◌, ◌∙◌, arith}
use Rattle.std.proofs.lemmas.Bool.{ltb-true}
use Rattle.racp_calendar.specs.Work.{count_below, is_weekly}
use Rattle.racp_calendar.proofs.Places.{divided, weekly_later, weeks_and_days}
use Rattle.racp_calendar.proofs.pattern.Pattern.weekly_day.Goals as goal

pub returns-clause-place : goal.returns-clause-place
returns-clause-place c =
    let week = c.args.self.now.week in
    let each = c.in_week-each.result in
    let weeks = c.args.place / each in
    let counted = weeks_and_days week weeks c.day_of_week.result in
    let some : 0 < each = omega (arith, c.in_week-each.ensures.value, ltb-true 0 (count_below (is_weekly week) 7) c.args.self.now.some) in
    let whole = divided c.args.place each some in
    let placed : weeks * each + c.args.place % each ≡ c.args.place = whole in
    (weekly_later week weeks c.day_of_week.result ∙ c.day_of_week.ensures.place.0, cc (counted, placed, c.day_of_week.ensures.place.1, c.in_week-each.ensures.value))
