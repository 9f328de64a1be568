use Rattle.std.proofs.Common.{◌∙◌, ℕ, List, ap, refl, subst}
use Rattle.racp_calendar.specs.Dates.{last_word}
use Rattle.racp_show.specs.Sheets.{AreJobEntries}
use Rattle.racp_show.proofs.sheet.sheet_of.Goals as goal

pub returns : goal.returns
returns c = record {
  deadline_is = c.deadline_of-deadline.ensures;
  deadline_day_is = c.in_ok-deadline_day.ensures ∙ ap (λ (d : ℕ). last_word c.args.calendar d) c.deadline_of-deadline.ensures;
  dated = c.has_dates.ensures;
  critical_is = refl;
  cost_is = refl;
  late = c.in_ok-room.room.latest;
  is_late = c.in_ok-room.ensures.latest;
  job_entries = subst (λ (starts : List ℕ). AreJobEntries c.args.calendar c.args.net.now starts c.in_ok-room.room.latest c.args.names.now c.in_ok-jobs.jobs.items) c.as_slice.ensures c.in_ok-jobs.ensures;
  resource_entries = c.in_ok-resources.ensures;
}
