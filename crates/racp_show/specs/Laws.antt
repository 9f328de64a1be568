-- Laws of what is drawn.
use Rattle.std.specs.Prelude.{ℕ, ◌+◌, ◌*◌, ◌<◌, ◌≤◌, ◌↔◌}
use Rattle.racp_show.specs.declared.scale.Bar.{Bar}
use Rattle.racp_show.specs.Scales.{IsScale, IsBar}

-- time t is one of those for which column c stands
abbrev pub IsInColumn : ℕ → ℕ → ℕ → Type 0
IsInColumn span c t = (c * span ≤ t) × (t < c * span + span)

-- a job that runs from start to before end is drawn in exactly the columns in which there is a time at which it runs
abbrev pub DrawnWhereItRuns : Type 0
DrawnWhereItRuns = (span columns start end : ℕ) (bar : Bar) → 0 < span → start < end →
    IsBar span columns start end bar → (c : ℕ) →
    ((bar.first ≤ c) × (c < bar.first + bar.count)) ↔ ((t : ℕ) × (start ≤ t) × (t < end) × IsInColumn span c t)

-- in a scale of the deadline, the bar of a job that ends by it lies within the columns
abbrev pub DrawnInColumns : Type 0
DrawnInColumns = (deadline most span columns start end : ℕ) (bar : Bar) → IsScale deadline most span columns →
    start < end → end ≤ deadline → IsBar span columns start end bar → bar.first + bar.count ≤ columns
