-- From a time on, a usage is at most that at this time, or at the start of some job after it.
use Rattle.std.proofs.Common.{ℕ, ◌+◌, ◌<◌, ◌≤◌, List, length, slice_index, inl, inr, arith}
use Rattle.std.proofs.lemmas.Bool.{cases_lt}
use Rattle.racp_model.specs.Project.{Project, IsSound, duration, request}
use Rattle.racp_model.specs.Schedule.{sum_below, use_of, usage}
use Rattle.racp_model.proofs.lemmas.Sums.{sum_below-mono, sum_below-bound, use_of-small}
use Rattle.racp_model.proofs.lemmas.Parts.{part, part-on, part-off, on_cases, IsOn, IsLatest, latest, part-at_latest}

module _ (begin end weight : ℕ → ℕ) where
  -- where the part that begins last of those on at t begins at `from` or earlier, none is lost from t back to `from`
  part-at_from : (from t n j i : ℕ) → IsLatest begin end weight t n j → begin j ≤ from → from ≤ t → i < n → part begin end weight t i ≤ part begin end weight from i
  part-at_from from t n j i h early after l = elim (on_cases begin end weight t i) [
    | inl on ↦
        let there : IsOn begin end weight from i = (omega (arith, h.last i l on, early), omega (arith, on.1, after)) in
        omega (arith, part-on begin end weight t i on, part-on begin end weight from i there)
    | inr off ↦ omega (arith, part-off begin end weight t i off)
  ]

  -- what the parts below n weigh together at t is within a bound, where it is at `from` and at the begin of each of them
  -- from there to t
  parts-from : (from t n most : ℕ) → from ≤ t → sum_below n (part begin end weight from) ≤ most → ((j : ℕ) → j < n → from < begin j → begin j ≤ t → sum_below n (part begin end weight (begin j)) ≤ most) → sum_below n (part begin end weight t) ≤ most
  parts-from from t n most after first each = elim (latest begin end weight t n) [
    | inl none ↦ omega (arith, sum_below-bound n 0 (part begin end weight t) (λ i l. omega (arith, part-off begin end weight t i (none i l))))
    | inr some ↦ elim (cases_lt from (begin some.0)) [
      | inl later ↦
          omega (
            arith,
            each some.0 some.1.below later some.1.on.0,
            sum_below-mono n (part begin end weight t) (part begin end weight (begin some.0)) (λ i l. part-at_latest begin end weight t n some.0 i some.1 l),
          )
      | inr earlier ↦
          omega (
            arith,
            first,
            sum_below-mono n (part begin end weight t) (part begin end weight from) (λ i l. part-at_from from t n some.0 i some.1 earlier after l),
          )
    ]
  ]

-- so is a usage
usage-from : (p : Project) (starts : List ℕ) (k from t most : ℕ) → from ≤ t → usage p starts k from ≤ most → ((j : ℕ) → j < length p.jobs → from < slice_index starts j → slice_index starts j ≤ t → usage p starts k (slice_index starts j) ≤ most) → usage p starts k t ≤ most
unfolding use_of part
usage-from p starts k from t most = parts-from (slice_index starts) (λ i. slice_index starts i + duration p i) (λ i. request p i k) from t (length p.jobs) most

-- the usage at the times from `from` to before `to` is within a bound, where it is at `from` and at each start between
pub usage-between : (p : Project) (starts : List ℕ) (k from to most : ℕ) → usage p starts k from ≤ most → ((j : ℕ) → j < length p.jobs → from < slice_index starts j → slice_index starts j < to → usage p starts k (slice_index starts j) ≤ most) → (t : ℕ) → from ≤ t → t < to → usage p starts k t ≤ most
usage-between p starts k from to most first each t after before =
    usage-from p starts k from t most after first (λ j job later early. each j job later (omega (arith, early, before)))

-- a usage is small
pub usage-small : (p : Project) (starts : List ℕ) (k t : ℕ) → IsSound p → k < p.resources → usage p starts k t ≤ 5120000
usage-small p starts k t sound resource =
    omega (arith, sound.limits.most_jobs, sum_below-bound (length p.jobs) 10000 (use_of p starts k t) (λ i job. use_of-small p starts k t i sound job resource))
