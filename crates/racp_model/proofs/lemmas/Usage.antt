-- What jobs use while they are active, and while they are not.
use Rattle.std.proofs.Common.{◌≡◌, ℕ, ◌+◌, ◌<◌, ◌≤◌, ◌⊎◌, inl, inr, List, length, slice_index, true, false, ◌&&◌, nat_le, nat_lt, cond, arith}
use Rattle.std.proofs.lemmas.Bool.{cases_lt}
use Rattle.std.proofs.lemmas.Bool.Decides.{nat_tests}
use Rattle.racp_model.specs.Project.{Project, duration, request}
use Rattle.racp_model.specs.Schedule.{IsActive, use_of, usage, roof, Fits, ArePeaks}
use Rattle.racp_model.proofs.lemmas.Sums.{sum_below-mono}

-- an active job uses its request
pub use_of-active : (p : Project) (starts : List ℕ) (k t i : ℕ) → IsActive p starts t i → use_of p starts k t i ≡ request p i k
unfolding use_of
use_of-active p starts k t i a =
    let started : slice_index starts i ≤ t = a.started in
    let runs : t < slice_index starts i + duration p i = a.runs in
    grind (arith, nat_tests)

-- another uses nothing
pub use_of-idle : (p : Project) (starts : List ℕ) (k t i : ℕ) → (IsActive p starts t i → ⊥) → use_of p starts k t i ≡ 0
unfolding use_of
use_of-idle p starts k t i idle =
    elim (cases_lt t (slice_index starts i)) [
      | inl before ↦ grind (arith, nat_tests)
      | inr started ↦ elim (cases_lt t (slice_index starts i + duration p i)) [
        | inl runs ↦ absurd (idle (record { started = started; runs = runs }))
        | inr over ↦ grind (arith, nat_tests)
      ]
    ]

-- a job is active or it is not
pub active_cases : (p : Project) (starts : List ℕ) (t i : ℕ) → IsActive p starts t i ⊎ (IsActive p starts t i → ⊥)
active_cases p starts t i =
    elim (cases_lt t (slice_index starts i)) [
      | inl before ↦ inr (λ a. let started : slice_index starts i ≤ t = a.started in omega arith)
      | inr started ↦ elim (cases_lt t (slice_index starts i + duration p i)) [
        | inl runs ↦ inl (record { started = started; runs = runs })
        | inr over ↦ inr (λ a. let runs : t < slice_index starts i + duration p i = a.runs in omega arith)
      ]
    ]

-- a job uses at most its request
pub use_of-request : (p : Project) (starts : List ℕ) (k t i : ℕ) → use_of p starts k t i ≤ request p i k
unfolding use_of
use_of-request p starts k t i =
    elim (nat_le (slice_index starts i) t && nat_lt t (slice_index starts i + duration p i)) as (λ v. cond v (request p i k) 0 ≤ request p i k)
    [ true ↦ omega arith | false ↦ omega arith ]

-- all jobs together use at most the roof
pub usage-roof : (p : Project) (starts : List ℕ) (k t : ℕ) → usage p starts k t ≤ roof p k
usage-roof p starts k t = sum_below-mono (length p.jobs) (use_of p starts k t) (λ i. request p i k) (λ i l. use_of-request p starts k t i)

-- starts that fit some capacities fit their peaks
pub fits-peaks : (p : Project) (capacities starts peaks : List ℕ) → Fits p capacities starts → ArePeaks p starts peaks → Fits p peaks starts
fits-peaks p capacities starts peaks fits are = record { precedence = fits.precedence; within = λ k t l. (are.each k l).most t }

-- which are at most those capacities
pub peaks-below : (p : Project) (capacities starts peaks : List ℕ) → Fits p capacities starts → ArePeaks p starts peaks → (k : ℕ) → k < p.resources → slice_index peaks k ≤ slice_index capacities k
peaks-below p capacities starts peaks fits are k l = let reached = (are.each k l).reached in omega (arith, reached.1, fits.within k reached.0 l)
