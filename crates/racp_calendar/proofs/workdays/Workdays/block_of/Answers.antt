use Rattle.std.proofs.Common.{◌∙◌, arith, sym}
use Rattle.racp_calendar.specs.Dates.{most_days, work_of}
use Rattle.racp_calendar.specs.Units.{unit_days}
use Rattle.racp_calendar.specs.Work.{has_work, is_worked}
use Rattle.racp_calendar.proofs.Blocks.{count_same, late_block, place_is_block}
use Rattle.racp_calendar.proofs.workdays.Workdays.block_of.Goals as goal

pub returns-then-time-clause-value : goal.returns-then-time-clause-value
returns-then-time-clause-value c =
    let calendar = c.args.self.now in
    sym (late_block (work_of calendar) (unit_days calendar.unit) most_days c.args.time (omega (arith, c.if-time.true)))

pub returns-clause-value : goal.returns-clause-value
returns-clause-value c =
    let calendar = c.args.self.now in
    let works = has_work (work_of calendar) (unit_days calendar.unit) in
    let blocks = is_worked calendar.blocks.week calendar.blocks.free.items in
    let day = c.day_at.result in
    let place = c.day_at.ensures.place in
    c.sooner.ensures ∙ sym (place_is_block (work_of calendar) (unit_days calendar.unit) most_days c.args.time day
    (sym (calendar.blocks_work day) ∙ place.0, sym (count_same blocks works calendar.blocks_work day) ∙ place.1))
