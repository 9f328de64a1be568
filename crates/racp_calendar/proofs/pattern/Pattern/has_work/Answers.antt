use Rattle.std.proofs.Common.{◌∙◌, sym}
use Rattle.racp_calendar.specs.Work.{is_worked}
use Rattle.racp_calendar.proofs.Weeks.{no_work_yet, some_work}
use Rattle.racp_calendar.proofs.pattern.Pattern.has_work.Goals as goal

pub returns-then-works : goal.returns-then-works
returns-then-works c =
    let pattern = c.args.self.now in
    some_work (is_worked pattern.week pattern.free.items) c.args.week c.loop-day.day c.loop-day-test.true c.loop-day.invariant (sym c.works.ensures ∙ c.if-works.true)

pub loop-day-preserved : goal.loop-day-preserved
loop-day-preserved c =
    let pattern = c.args.self.now in
    no_work_yet (is_worked pattern.week pattern.free.items) c.args.week c.loop-day.day c.loop-day.invariant (sym c.works.ensures ∙ c.if-works.false)
