-- The energy over the deadline, rounded up, and what the jobs use over all times before the deadline.
use Rattle.std.proofs.Common.{ℕ, ◌+◌, ◌*◌, ◌<◌, ◌≤◌, inl, inr, length, arith}
use Rattle.std.specs.Int.{div_ceil}
use Rattle.std.proofs.Math.Nat.{mul-le-mul_right}
use Rattle.std.proofs.lemmas.Bool.{cases_lt}
use Rattle.std.proofs.lemmas.Grind.{div_ceil_times}
use Rattle.racp_model.specs.Project.{Project, IsSound, duration, request}
use Rattle.racp_model.specs.Schedule.{roof, energy}
use Rattle.racp_model.proofs.lemmas.Sums.{sum_below-mono, sum_below-bound, sum_below-times, request-small}

-- a quotient that is rounded up is the least number of times that is enough
pub div_ceil-le : (a b units : ℕ) → 0 < b → a ≤ units * b → div_ceil a b ≤ units
div_ceil-le a b units some enough = elim (cases_lt units (div_ceil a b)) [
  | inl less ↦ absurd (omega (arith, (div_ceil_times a b some).1, mul-le-mul_right {m = units + 1} {n = div_ceil a b} b (omega (arith, less))))
  | inr least ↦ least
]

-- where no job is longer than the deadline, the energy is at most the roof times the deadline
pub energy-roof : (p : Project) (k deadline : ℕ) → ((i : ℕ) → i < length p.jobs → duration p i ≤ deadline) → energy p k ≤ deadline * roof p k
energy-roof p k deadline short =
    omega (
      arith,
      sum_below-mono (length p.jobs) (λ i. duration p i * request p i k) (λ i. deadline * request p i k) (λ i l. mul-le-mul_right (request p i k) (short i l)),
      sum_below-times (length p.jobs) deadline (λ i. request p i k),
    )

-- a roof is small
pub roof-small : (p : Project) (k : ℕ) → IsSound p → k < p.resources → roof p k ≤ 5120000
roof-small p k sound resource =
    omega (arith, sound.limits.most_jobs, sum_below-bound (length p.jobs) 10000 (λ i. request p i k) (λ i l. request-small p i k sound l resource))

-- so the energy over the deadline is small
pub over-small : (p : Project) (k deadline : ℕ) → IsSound p → k < p.resources → 0 < deadline → ((i : ℕ) → i < length p.jobs → duration p i ≤ deadline) → div_ceil (energy p k) deadline ≤ 5120000
over-small p k deadline sound resource some short =
    omega (arith, roof-small p k sound resource, div_ceil-le (energy p k) deadline (roof p k) some (omega (arith, energy-roof p k deadline short)))
