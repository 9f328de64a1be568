-- The least work at some times: how much it is at the most, and that no starts in a window do less together.
use Rattle.std.proofs.Common.{◌≡◌, ℕ, zero, suc, ◌+◌, ◌-◌, ◌*◌, ◌<◌, ◌≤◌, inl, inr, List, [], ◌∷◌, All, length, sum_by, arith, ap}
use Rattle.std.proofs.Math.Nat.{mul-le-mul_right}
use Rattle.std.proofs.lemmas.Bool.{cases_lt}
use Rattle.std.proofs.lemmas.Nat.{mul-le}
use Rattle.std.proofs.lemmas.List.Elements.{All-head, All-tail}
use Rattle.std.proofs.lemmas.List.Sums.{sum_by-cons}
use Rattle.racp_model.specs.Project.{Project, IsNumber, IsSound, place, request}
use Rattle.racp_model.specs.Schedule.{sum_below, use_of, roof}
use Rattle.racp_model.specs.Window.{Bounds, LiesIn}
use Rattle.racp_model.proofs.lemmas.Sums.{sum_below-step, sum_below-none, sum_below-mono, sum_below-add, sum_below-times, request-small}
use Rattle.racp_clauses.specs.Rules.{least_time, least_work}
use Rattle.racp_clauses.specs.Uses.{LeastWorkIsDone}
use Rattle.racp_whatif.specs.Needs.{usage_by}
use Rattle.racp_whatif.specs.Fitting.{WorkFits}

-- a part of the work is small
pub part-small : (p : Project) (k i time part : ℕ) → IsSound p → i < length p.jobs → k < p.resources → time ≤ 10000 → part ≡ request p i k * time → part ≤ 100000000
part-small p k i time part sound job resource small is = omega (arith, is, mul-le (request p i k) time 10000 10000 (request-small p i k sound job resource) small)

-- for a loop that sums these
pub ruleset works = (sum_below-step, sum_below-none)

module _ (p : Project) (window : Bounds) (k a b : ℕ) where
  -- a job runs no longer than these times last
  part-most : (i : ℕ) → least_work p window k a b i ≤ (b - a) * request p i k
  part-most i =
      let time : ℕ = least_time p window a b i in
      let short : time ≤ b - a = omega arith in
      omega (arith, mul-le-mul_right {m = time} {n = b - a} (request p i k) short)

  -- so all work is at most that of the roof
  work-most : sum_below (length p.jobs) (least_work p window k a b) ≤ (b - a) * roof p k
  work-most =
      omega (
        arith,
        sum_below-mono (length p.jobs) (least_work p window k a b) (λ i. (b - a) * request p i k) (λ i l. part-most i),
        sum_below-times (length p.jobs) (b - a) (λ i. request p i k),
      )

  -- it fits as many units
  pub fits-roof : (units : ℕ) → roof p k ≤ units → WorkFits p window k units a b
  fits-roof units enough = omega (arith, work-most, mul-le-mul_right {m = roof p k} {n = units} (b - a) enough)

  -- without times there is none
  pub work-none : b ≤ a → sum_below (length p.jobs) (least_work p window k a b) ≤ 0
  work-none past =
      let none : b - a ≡ 0 = omega (arith, past) in
      omega (arith, work-most, ap (λ (n : ℕ). n * roof p k) none)

-- of terms that are together more than so often a number, one is more than that
pub some-more : (m c : ℕ) (f : ℕ → ℕ) → c * m < sum_below m f → (u : ℕ) × (u < m) × (c < f u)
unfolding sum_below
some-more zero c f more = absurd (omega (arith, more))
some-more (suc m) c f more = elim (cases_lt c (f m)) [
  | inl here ↦ (m, omega arith, here)
  | inr not ↦ let before = some-more m c f (omega (arith, more, not)) in (before.0, omega (arith, before.1), before.2)
]

-- jobs do together at least their least work
pub done_together : (p : Project) (window : Bounds) (starts : List ℕ) (k a m : ℕ) → LeastWorkIsDone → LiesIn p window starts → (jobs : List ℕ) → All (IsNumber (length p.jobs)) jobs →
    sum_by (λ job. least_work p window k a (a + m) (place job)) jobs ≤ sum_below m (λ u. usage_by p starts k (a + u) jobs)
done_together p window starts k a m law lies [] named = omega arith
done_together p window starts k a m law lies (job ∷ rest) named =
    let one = All-head (IsNumber (length p.jobs)) job rest named in
    let first : least_work p window k a (a + m) (place job) ≤ sum_below m (λ u. use_of p starts k (a + u) (place job)) = law p window starts k a m (place job) lies (omega (arith, one.0, one.1)) in
    let others = done_together p window starts k a m law lies rest (All-tail (IsNumber (length p.jobs)) job rest named) in
    omega (
      arith,
      first,
      others,
      sum_by-cons (λ job. least_work p window k a (a + m) (place job)) job rest,
      sum_below-add m (λ u. use_of p starts k (a + u) (place job)) (λ u. usage_by p starts k (a + u) rest),
      sum_below-mono m (λ u. use_of p starts k (a + u) (place job) + usage_by p starts k (a + u) rest) (λ u. usage_by p starts k (a + u) (job ∷ rest))
          (λ u l. omega (arith, sum_by-cons (λ job. use_of p starts k (a + u) (place job)) job rest)),
    )
