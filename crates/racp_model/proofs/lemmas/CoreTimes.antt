-- Core times: jobs are active at them, and so use at least what they use there wherever they start.
use Rattle.std.proofs.Common.{◌≡◌, ℕ, ◌+◌, ◌<◌, ◌≤◌, inl, inr, List, length, slice_index, true, false, ◌&&◌, nat_le, nat_lt, cond, arith, refl}
use Rattle.racp_model.specs.Project.{Project, IsSound, duration, request}
use Rattle.racp_model.specs.Schedule.{IsActive, use_of}
use Rattle.racp_model.specs.Window.{Bounds, LiesIn}
use Rattle.racp_model.specs.CoreTimes.{IsCoreTime, core_use}
use Rattle.racp_model.proofs.lemmas.Parts.{part, on_cases, part-on, part-off}
use Rattle.racp_model.proofs.lemmas.Sums.{sum_below-step, sum_below-none, request-small}
use Rattle.racp_model.proofs.lemmas.Usage.{use_of-active}

-- a core use is the weight of the part from the upper bound to the end from the lower bound
pub core_use-part : (p : Project) (window : Bounds) (k t i : ℕ) → core_use p window k t i ≡ part (slice_index window.upper) (λ i. slice_index window.lower i + duration p i) (λ i. request p i k) t i
unfolding core_use part
core_use-part p window k t i = refl

-- at its core times a job is active in all starts in the window
pub active_at_core : (p : Project) (window : Bounds) (starts : List ℕ) (t i : ℕ) → LiesIn p window starts → i < length p.jobs → IsCoreTime p window t i → IsActive p starts t i
active_at_core p window starts t i lies l core = record {
  started = omega (arith, lies.below i l, core.started);
  runs = omega (arith, lies.above i l, core.runs);
}

-- it uses its request at a core time
pub core_use-on : (p : Project) (window : Bounds) (k t i : ℕ) → IsCoreTime p window t i → core_use p window k t i ≡ request p i k
core_use-on p window k t i core =
    omega (arith, core_use-part p window k t i, part-on (slice_index window.upper) (λ i. slice_index window.lower i + duration p i) (λ i. request p i k) t i (core.started, core.runs))

-- and nothing at another time
pub core_use-off : (p : Project) (window : Bounds) (k t i : ℕ) → (IsCoreTime p window t i → ⊥) → core_use p window k t i ≡ 0
core_use-off p window k t i none =
    omega (arith, core_use-part p window k t i, part-off (slice_index window.upper) (λ i. slice_index window.lower i + duration p i) (λ i. request p i k) t i (λ on. none (record { started = on.0; runs = on.1 })))

-- in all starts in the window a job uses at least its core use
pub core_use-use : (p : Project) (window : Bounds) (starts : List ℕ) (k t i : ℕ) → LiesIn p window starts → i < length p.jobs → core_use p window k t i ≤ use_of p starts k t i
core_use-use p window starts k t i lies l = elim (on_cases (slice_index window.upper) (λ i. slice_index window.lower i + duration p i) (λ i. request p i k) t i) [
  | inl on ↦
      let core : IsCoreTime p window t i = record { started = on.0; runs = on.1 } in
      omega (arith, core_use-on p window k t i core, use_of-active p starts k t i (active_at_core p window starts t i lies l core))
  | inr off ↦ omega (arith, core_use-off p window k t i (λ core. off (core.started, core.runs)))
]

-- it is at most the job's request
pub core_use-request : (p : Project) (window : Bounds) (k t i : ℕ) → core_use p window k t i ≤ request p i k
unfolding core_use
core_use-request p window k t i =
    elim (nat_le (slice_index window.upper i) t && nat_lt t (slice_index window.lower i + duration p i)) as (λ v. cond v (request p i k) 0 ≤ request p i k)
    [ true ↦ omega arith | false ↦ omega arith ]

-- which is small
pub core_use-small : (p : Project) (window : Bounds) (k t i : ℕ) → IsSound p → i < length p.jobs → k < p.resources → core_use p window k t i ≤ 10000
core_use-small p window k t i sound job resource = omega (arith, core_use-request p window k t i, request-small p i k sound job resource)

-- for a loop that sums what jobs use at their core times
pub ruleset core_uses = (sum_below-step, sum_below-none, core_use-small)
