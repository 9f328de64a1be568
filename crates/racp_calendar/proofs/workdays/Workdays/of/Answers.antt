use Rattle.std.proofs.Common.{◌∙◌, ◌&&◌, ap, not, Bool, List, ℕ}
use Rattle.jiff_core.specs.Date.{weekday_of}
use Rattle.racp_calendar.specs.Holidays.{week_from}
use Rattle.racp_calendar.specs.Work.{is_free, is_weekly}
use Rattle.racp_calendar.proofs.workdays.Workdays.of.Goals as goal

pub returns-clause-worked : goal.returns-clause-worked
returns-clause-worked c =
    let week = c.week_from-week.ensures ∙ ap (λ (begin : ℕ). week_from c.args.worked begin) (c.index.ensures.value ∙ c.weekday.ensures) in
    λ day. c.in_ok-days.ensures.worked day
    ∙ ap (λ (all : List Bool). is_weekly all day && not (is_free c.in_ok-free.free.items day)) week
    ∙ ap (λ (free : Bool). is_weekly (week_from c.args.worked (weekday_of c.args.first)) day && not free) (c.in_ok-free.ensures.free day)
