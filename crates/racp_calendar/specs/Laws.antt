-- Laws of working days: what the days of times are to each other. Days are counted from the first day of a calendar.
use Rattle.std.specs.Prelude.{◌≡◌, ℕ, ◌+◌, ◌-◌, ◌<◌, ◌≤◌, Bool, true}
use Rattle.racp_calendar.specs.Work.{IsPlace, block_at, count_below, end_day, has_work, start_day}

-- the block of a time, if it is not too late for one, has work, and so have as many blocks before it
abbrev pub BlocksAreCounted : Type 0
BlocksAreCounted = (works : ℕ → Bool) (span most time : ℕ) → block_at works span most time < most →
    IsPlace (has_work works span) time (block_at works span most time)

-- what starts is begun on a day that is worked on, and what ends is done on one
abbrev pub StartsOnWorkdays : Type 0
StartsOnWorkdays = (works : ℕ → Bool) (span most time : ℕ) → block_at works span most time < most →
    works (start_day works span most time) ≡ true

abbrev pub EndsOnWorkdays : Type 0
EndsOnWorkdays = (works : ℕ → Bool) (span most time : ℕ) → block_at works span most time < most →
    works (end_day works span most (time + 1)) ≡ true

-- a time unit is done on its first day or later, and before what starts later is begun
abbrev pub DaysRise : Type 0
DaysRise = (works : ℕ → Bool) (span most time later : ℕ) → time < later → block_at works span most later < most →
    (start_day works span most time ≤ end_day works span most (time + 1)) ×
    (end_day works span most (time + 1) < start_day works span most later)

-- if time units are days, as many days are worked on between two starts as there are time units
abbrev pub WorkIsCounted : Type 0
WorkIsCounted = (works : ℕ → Bool) (most time later : ℕ) → time ≤ later → block_at works 1 most later < most →
    count_below works (start_day works 1 most later) ≡ count_below works (start_day works 1 most time) + (later - time)
