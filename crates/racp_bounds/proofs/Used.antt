-- What the jobs use over all times before a deadline is the energy.
use Rattle.std.proofs.Common.{◌≡◌, ℕ, zero, suc, ◌+◌, ◌-◌, ◌*◌, ◌≤◌, min, inl, inr, List, length, slice_index, arith, ap, ◌∙◌}
use Rattle.std.proofs.Math.Nat.{mul-add, mul_comm}
use Rattle.std.proofs.lemmas.Bool.{cases_lt}
use Rattle.racp_model.specs.Project.{Project, duration, request}
use Rattle.racp_model.specs.Schedule.{use_of, sum_below}
use Rattle.racp_model.proofs.lemmas.Sums.{sum_below-same, sum_below-swap}
use Rattle.racp_model.proofs.lemmas.Parts.{part, part-on, part-off}
use Rattle.racp_model.proofs.lemmas.Latest.{use_of-part}
use Rattle.racp_bounds.specs.Laws.{EnergyIsUsed}

-- a product with one more
times_more : (w x y : ℕ) → y ≡ x + 1 → w * y ≡ w * x + w
times_more w x y e = omega (arith, ap (λ (n : ℕ). w * n) e, mul-add w x 1)

-- over all times before a bound a part weighs its weight as often as it is on
pub part-sum : (begin end weight : ℕ → ℕ) (i bound : ℕ) → sum_below bound (λ t. part begin end weight t i) ≡ weight i * (min bound (end i) - begin i)
unfolding sum_below
part-sum begin end weight i zero =
    let none : min 0 (end i) - begin i ≡ 0 = omega arith in
    omega (arith, ap (λ (n : ℕ). weight i * n) none)
part-sum begin end weight i (suc t) = elim (cases_lt t (begin i)) [
  | inl before ↦
      let same : min (suc t) (end i) - begin i ≡ min t (end i) - begin i = omega arith in
      omega (arith, part-sum begin end weight i t, part-off begin end weight t i (λ on. omega (arith, on.0)), ap (λ (n : ℕ). weight i * n) same)
  | inr begun ↦ elim (cases_lt t (end i)) [
    | inl on ↦
        let more : min (suc t) (end i) - begin i ≡ min t (end i) - begin i + 1 = omega arith in
        omega (arith, part-sum begin end weight i t, part-on begin end weight t i (begun, on), times_more (weight i) (min t (end i) - begin i) (min (suc t) (end i) - begin i) more)
    | inr over ↦
        let same : min (suc t) (end i) - begin i ≡ min t (end i) - begin i = omega arith in
        omega (arith, part-sum begin end weight i t, part-off begin end weight t i (λ on. omega (arith, on.1)), ap (λ (n : ℕ). weight i * n) same)
  ]
]

-- over all times before a deadline by which it ends, a job uses duration times request
pub use_of-sum : (p : Project) (starts : List ℕ) (k i deadline : ℕ) → slice_index starts i + duration p i ≤ deadline →
    sum_below deadline (λ t. use_of p starts k t i) ≡ duration p i * request p i k
use_of-sum p starts k i deadline ends =
    let lasts : min deadline (slice_index starts i + duration p i) - slice_index starts i ≡ duration p i = omega arith in
    sum_below-same deadline (λ t. use_of p starts k t i) (λ t. part (slice_index starts) (λ i. slice_index starts i + duration p i) (λ i. request p i k) t i) (λ t l. use_of-part p starts k t i)
    ∙ part-sum (slice_index starts) (λ i. slice_index starts i + duration p i) (λ i. request p i k) i deadline
    ∙ ap (λ (n : ℕ). request p i k * n) lasts
    ∙ mul_comm (request p i k) (duration p i)

-- so all jobs together use the energy
pub energy_used : EnergyIsUsed
energy_used p starts k deadline ends =
    sum_below-swap deadline (length p.jobs) (λ t i. use_of p starts k t i)
    ∙ sum_below-same (length p.jobs) (λ i. sum_below deadline (λ t. use_of p starts k t i)) (λ i. duration p i * request p i k) (λ i l. use_of-sum p starts k i deadline (ends i l))
