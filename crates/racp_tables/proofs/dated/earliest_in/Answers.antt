use Rattle.std.proofs.Common.{subst, sym}
use Rattle.racp_calendar.specs.Times.{IsTimeFrom}
use Rattle.racp_calendar.specs.declared.calendar.Calendar.{Calendar}
use Rattle.racp_tables.specs.CellRows.{IsTimeOn}
use Rattle.racp_tables.proofs.dated.earliest_in.Goals as goal

pub returns-in-Some : goal.returns-in-Some
returns-in-Some c =
    let written = rw c.in-Some.is at c.in_ok-date-in-Dates.ensures in
    subst (λ (calendar : Calendar). IsTimeOn calendar c.args.dating.form IsTimeFrom c.args.cell.now c.time_from.result) (sym c.in-Dates.is)
    (c.in-Some.date, written, c.time_from.ensures.time)
