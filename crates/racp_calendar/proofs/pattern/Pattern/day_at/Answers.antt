use Rattle.std.proofs.Common.{ℕ, subst}
use Rattle.racp_calendar.specs.Work.{IsPlace, is_weekly}
use Rattle.racp_calendar.proofs.Frees.{placed}
use Rattle.racp_calendar.proofs.pattern.Pattern.day_at.Goals as goal

pub returns-clause-place : goal.returns-clause-place
returns-clause-place c =
    let pattern = c.args.self.now in
    placed pattern.week pattern.free.items c.args.time c.weekly_day.result pattern.rising
    (subst (λ (place : ℕ). IsPlace (is_weekly pattern.week) place c.weekly_day.result) c.weekly_place.ensures.value c.weekly_day.ensures.place)
