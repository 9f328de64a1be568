use Rattle.std.proofs.Common.{◌≡◌, ◌≤◌, ℕ, ◌||◌, max, vec_len}
use Rattle.racp_calendar.specs.Holidays.{day_number}
use Rattle.racp_calendar.specs.Work.{is_free}
use Rattle.racp_calendar.proofs.Offs.{between}
use Rattle.racp_calendar.proofs.building.push_free.Given as goal

abbrev pub invariant-loop-number : goal.invariant-loop-number
invariant-loop-number l = ((day : ℕ) → is_free l.days.items day ≡ (is_free l.initial.days.items day || between (day_number l.holiday.first) l.start l.number day))
    × (vec_len l.days ≤ 4000) × (l.start ≤ l.number) × (day_number l.holiday.first ≤ l.number) × (l.number ≤ max l.from l.end)
