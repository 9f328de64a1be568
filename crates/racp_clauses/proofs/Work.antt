-- The work that is done from one time to another wherever the jobs start.
use Rattle.std.proofs.Common.{ℕ, ◌+◌, ◌-◌, ◌*◌, ◌<◌, ◌≤◌, inl, inr, List, length, slice_index, arith}
use Rattle.std.proofs.lemmas.Bool.{cases_lt}
use Rattle.std.proofs.lemmas.Nat.{mul-le}
use Rattle.racp_model.specs.Project.{Project, IsSound, duration, request}
use Rattle.racp_model.specs.Schedule.{IsActive, sum_below, use_of, usage}
use Rattle.racp_model.specs.Terms.{Terms}
use Rattle.racp_model.specs.Window.{Bounds}
use Rattle.racp_model.proofs.lemmas.Sums.{sum_below-step, sum_below-none, sum_below-mono, sum_below-swap, sum_below-bound, sum_below-term, request-small}
use Rattle.racp_model.proofs.lemmas.Usage.{use_of-active}
use Rattle.racp_clauses.specs.Solutions.{IsSchedule, IsWithin, HasPlaces, values}
use Rattle.racp_clauses.specs.Rules.{least_time, least_work}
use Rattle.racp_clauses.proofs.Sums.{sum_below-stretch}
use Rattle.racp_clauses.specs.Uses.{LeastWorkIsDone}
use Rattle.racp_clauses.proofs.Values.{lies}

-- a product of a request and a duration is small
pub work-small : (p : Project) (k i time : ℕ) → IsSound p → i < length p.jobs → k < p.resources → time ≤ 10000 → request p i k * time ≤ 100000000
work-small p k i time sound job resource small = mul-le (request p i k) time 10000 10000 (request-small p i k sound job resource) small

-- for a loop that sums these
pub ruleset works = (sum_below-step, sum_below-none, work-small)

-- in all starts in a window a job does at least its least work
pub work-in_window : LeastWorkIsDone
work-in_window p window starts k a m i lies job =
    let time : ℕ = least_time p window a (a + m) i in
    let above : slice_index window.lower i ≤ slice_index starts i = lies.above i job in
    let below : slice_index starts i ≤ slice_index window.upper i = lies.below i job in
    let active : (u : ℕ) → slice_index starts i ≤ a + u → a + u < slice_index starts i + duration p i → request p i k ≤ use_of p starts k (a + u) i =
    λ u started runs. omega (arith, use_of-active p starts k (a + u) i (record { started = started; runs = runs })) in
    elim (cases_lt (a + m) (slice_index starts i)) [
      | inl behind ↦ sum_below-stretch m 0 time (request p i k) (λ u. use_of p starts k (a + u) i) (omega (arith, behind, below)) (λ u l s. absurd (omega (arith, s, behind, below)))
      | inr within ↦ elim (cases_lt a (slice_index starts i)) [
        | inl later ↦ sum_below-stretch m (slice_index starts i - a) time (request p i k) (λ u. use_of p starts k (a + u) i) (omega (arith, within, later, above, below))
            (λ u l s. active u (omega (arith, l, later)) (omega (arith, l, s, later)))
        | inr earlier ↦ sum_below-stretch m 0 time (request p i k) (λ u. use_of p starts k (a + u) i) (omega (arith, above, below))
            (λ u l s. active u (omega (arith, earlier)) (omega (arith, s, earlier, above)))
      ]
    ]

module _ (p : Project) (terms : Terms) (starts capacities : List ℕ) (h : IsSchedule p starts capacities) (bounds : Bounds) (has : HasPlaces p bounds) (w : IsWithin bounds (values terms starts capacities)) where
  -- so all jobs together do at most what the units allow
  pub work-within : (k a m : ℕ) → k < p.resources → sum_below (length p.jobs) (least_work p bounds k a (a + m)) ≤ slice_index capacities k * m
  work-within k a m resource =
      omega (
        arith,
        sum_below-mono (length p.jobs) (least_work p bounds k a (a + m)) (λ i. sum_below m (λ u. use_of p starts k (a + u) i)) (λ i l. work-in_window p bounds starts k a m i (lies p terms starts capacities h bounds has w) l),
        sum_below-swap m (length p.jobs) (λ u. use_of p starts k (a + u)),
        sum_below-bound m (slice_index capacities k) (λ u. usage p starts k (a + u)) (λ u l. h.fits.within k (a + u) resource),
      )

-- a job that runs for some time uses its request at its start, so there are at least so many units
pub request-needed : (p : Project) (starts capacities : List ℕ) → IsSchedule p starts capacities → (i k : ℕ) → i < length p.jobs → k < p.resources → 0 < duration p i → request p i k ≤ slice_index capacities k
request-needed p starts capacities h i k job resource runs =
    let active : IsActive p starts (slice_index starts i) i = record { started = omega arith; runs = omega (arith, runs) } in
    omega (arith, use_of-active p starts k (slice_index starts i) i active, sum_below-term (length p.jobs) (use_of p starts k (slice_index starts i)) i job, h.fits.within k (slice_index starts i) resource)
