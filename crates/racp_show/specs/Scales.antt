-- How times are drawn in columns: column c stands for the times from c * span to before (c + 1) * span.
use Rattle.std.specs.Prelude.{◌≡◌, ℕ, ◌+◌, ◌-◌, ◌/◌, ◌<◌, ◌≤◌, min}
use Rattle.std.specs.Int.{div_ceil}
use Rattle.racp_model.specs.Plan.{IsLeast}
use Rattle.racp_show.specs.declared.scale.Bar.{Bar}

-- columns of this span are wide enough: at most this many of them stand for all times before the deadline
abbrev pub IsWideEnough : ℕ → ℕ → ℕ → Type 0
IsWideEnough deadline most span = (1 ≤ span) × (div_ceil deadline span ≤ most)

-- the scale of a deadline with at most this many columns: the least span that is wide enough, and no column too many
pub record IsScale (deadline most span columns : ℕ) : Type 0 where
  pub least : IsLeast ◌<◌ (IsWideEnough deadline most) span
  pub count : columns ≡ div_ceil deadline span

-- how a job that runs from start to end is drawn in columns of a span: from the column of its start to that of its last
-- time. One of duration 0 is drawn in no column, and its mark stands in that of its start, or in the last column if
-- it starts after all of them
pub record IsBar (span columns start end : ℕ) (bar : Bar) : Type 0 where
  pub begins : start < end → bar.first ≡ start / span
  pub stops : start < end → bar.first + bar.count ≡ (end - 1) / span + 1
  pub mark : start ≡ end → (bar.first ≡ min (start / span) (columns - 1)) × (bar.count ≡ 0)
