use Rattle.std.proofs.Common.{subst, sym}
use Rattle.racp_calendar.specs.Times.{IsTimeBy}
use Rattle.racp_calendar.specs.declared.calendar.Calendar.{Calendar}
use Rattle.racp_tables.specs.CellRows.{IsTimeOn}
use Rattle.racp_tables.proofs.dated.due_in.Goals as goal

pub returns-in-Some-time_by : goal.returns-in-Some-time_by
returns-in-Some-time_by c =
    let written = rw c.in-Some.is at c.in_ok-date-in-Dates.ensures in
    subst (λ (calendar : Calendar). IsTimeOn calendar c.args.dating.form IsTimeBy c.args.cell.now c.in-Some-time_by.time) (sym c.in-Dates.is)
    (c.in-Some.date, written, c.in-Some-time_by.ensures.time)
