use Rattle.std.proofs.Common.{◌≡◌, ◌≤◌, ℕ, take, vec_len}
use Rattle.std.specs.List.{list_any}
use Rattle.racp_calendar.specs.Holidays.{is_off}
use Rattle.racp_calendar.specs.declared.holiday.Holiday.{Holiday}
use Rattle.racp_calendar.specs.Work.{is_free}
use Rattle.racp_calendar.proofs.building.free_days.Given as goal

abbrev pub invariant-loop-holiday : goal.invariant-loop-holiday
invariant-loop-holiday l = ((day : ℕ) → is_free l.days.items day ≡ list_any (λ (holiday : Holiday). is_off l.fn.first holiday day) (take l.holiday-index l.holidays))
    × (vec_len l.days ≤ 4000)
