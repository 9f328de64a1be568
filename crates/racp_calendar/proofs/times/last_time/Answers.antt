use Rattle.std.proofs.Common.{◌+◌, ◌/◌, ◌<◌, ◌≤◌, ℕ, false, subst, sym, true}
use Rattle.racp_calendar.specs.Dates.{most_days, work_of}
use Rattle.racp_calendar.specs.Times.{IsBy}
use Rattle.racp_calendar.specs.Units.{unit_days}
use Rattle.racp_calendar.proofs.Keeping.{block_of_day, by_here, by_idle, by_next, counted_so, works_so}
use Rattle.racp_calendar.proofs.times.last_time.Goals as goal

pub returns-then-not-works-clause-time : goal.returns-then-not-works-clause-time
returns-then-not-works-clause-time c =
    let calendar = c.args.calendar.now in
    let block = c.args.day / c.days_of.result in
    let inside = block_of_day (unit_days calendar.unit) most_days c.args.day c.days_of.result c.days_of.ensures.value c.days_of.ensures.some c.requires.few in
    let on = works_so calendar block c.works.result false c.works.ensures c.if-not-works.true in
    subst (λ (n : ℕ). IsBy (work_of calendar) (unit_days calendar.unit) most_days c.args.day n) (sym (counted_so calendar block c.below-time.result c.below-time.ensures.value))
    (by_idle (work_of calendar) (unit_days calendar.unit) most_days c.args.day block inside c.requires.begun on)

pub returns-then-last_in-day-clause-time : goal.returns-then-last_in-day-clause-time
returns-then-last_in-day-clause-time c =
    let calendar = c.args.calendar.now in
    let block = c.args.day / c.days_of.result in
    let inside = block_of_day (unit_days calendar.unit) most_days c.args.day c.days_of.result c.days_of.ensures.value c.days_of.ensures.some c.requires.few in
    let on = works_so calendar block c.works.result true c.works.ensures c.if-not-works.false in
    subst (λ (n : ℕ). IsBy (work_of calendar) (unit_days calendar.unit) most_days c.args.day (n + 1)) (sym (counted_so calendar block c.below-time.result c.below-time.ensures.value))
    (by_next (work_of calendar) (unit_days calendar.unit) most_days c.args.day block inside on (subst (λ (n : ℕ). n ≤ c.args.day) c.last_in.ensures c.if-last_in-day.true))

pub returns-else-last_in-day-clause-time : goal.returns-else-last_in-day-clause-time
returns-else-last_in-day-clause-time c =
    let calendar = c.args.calendar.now in
    let block = c.args.day / c.days_of.result in
    let inside = block_of_day (unit_days calendar.unit) most_days c.args.day c.days_of.result c.days_of.ensures.value c.days_of.ensures.some c.requires.few in
    let on = works_so calendar block c.works.result true c.works.ensures c.if-not-works.false in
    subst (λ (n : ℕ). IsBy (work_of calendar) (unit_days calendar.unit) most_days c.args.day n) (sym (counted_so calendar block c.below-time.result c.below-time.ensures.value))
    (by_here (work_of calendar) (unit_days calendar.unit) most_days c.args.day block inside c.requires.begun on (subst (λ (n : ℕ). c.args.day < n) c.last_in.ensures c.if-last_in-day.false))
