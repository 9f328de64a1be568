use Rattle.std.proofs.Common.{◌+◌, ◌/◌, ◌<◌, ◌≤◌, ℕ, false, subst, sym, true}
use Rattle.racp_calendar.specs.Dates.{most_days, work_of}
use Rattle.racp_calendar.specs.Times.{IsFrom}
use Rattle.racp_calendar.specs.Units.{unit_days}
use Rattle.racp_calendar.proofs.Keeping.{block_of_day, from_here, from_idle, from_next, counted_so, works_so}
use Rattle.racp_calendar.proofs.times.first_time.Goals as goal

pub returns-then-not-works-clause-time : goal.returns-then-not-works-clause-time
returns-then-not-works-clause-time c =
    let calendar = c.args.calendar.now in
    let block = c.args.day / c.days_of.result in
    let inside = block_of_day (unit_days calendar.unit) most_days c.args.day c.days_of.result c.days_of.ensures.value c.days_of.ensures.some c.requires.few in
    let on = works_so calendar block c.works.result false c.works.ensures c.if-not-works.true in
    subst (λ (n : ℕ). IsFrom (work_of calendar) (unit_days calendar.unit) most_days c.args.day n) (sym (counted_so calendar block c.below-time.result c.below-time.ensures.value))
    (from_idle (work_of calendar) (unit_days calendar.unit) most_days c.args.day block inside on)

pub returns-then-first_in-day-clause-time : goal.returns-then-first_in-day-clause-time
returns-then-first_in-day-clause-time c =
    let calendar = c.args.calendar.now in
    let block = c.args.day / c.days_of.result in
    let inside = block_of_day (unit_days calendar.unit) most_days c.args.day c.days_of.result c.days_of.ensures.value c.days_of.ensures.some c.requires.few in
    let on = works_so calendar block c.works.result true c.works.ensures c.if-not-works.false in
    subst (λ (n : ℕ). IsFrom (work_of calendar) (unit_days calendar.unit) most_days c.args.day (n + 1)) (sym (counted_so calendar block c.below-time.result c.below-time.ensures.value))
    (from_next (work_of calendar) (unit_days calendar.unit) most_days c.args.day block inside on (subst (λ (n : ℕ). n < c.args.day) c.first_in.ensures c.if-first_in-day.true))

pub returns-else-first_in-day-clause-time : goal.returns-else-first_in-day-clause-time
returns-else-first_in-day-clause-time c =
    let calendar = c.args.calendar.now in
    let block = c.args.day / c.days_of.result in
    let inside = block_of_day (unit_days calendar.unit) most_days c.args.day c.days_of.result c.days_of.ensures.value c.days_of.ensures.some c.requires.few in
    let on = works_so calendar block c.works.result true c.works.ensures c.if-not-works.false in
    subst (λ (n : ℕ). IsFrom (work_of calendar) (unit_days calendar.unit) most_days c.args.day n) (sym (counted_so calendar block c.below-time.result c.below-time.ensures.value))
    (from_here (work_of calendar) (unit_days calendar.unit) most_days c.args.day block inside on (subst (λ (n : ℕ). c.args.day ≤ n) c.first_in.ensures c.if-first_in-day.false))
