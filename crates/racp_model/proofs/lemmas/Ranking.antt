-- How many jobs have a lower rank: a bound on ranks that rise along the pairs.
use Rattle.std.proofs.Common.{◌≡◌, ℕ, ◌<◌, ◌≤◌, inl, inr, arith}
use Rattle.std.proofs.lemmas.Bool.{cases_lt}
use Rattle.std.proofs.lemmas.Bool.Decides.{nat_tests}
use Rattle.racp_model.specs.Ranks.{is_lower, lower_count}
use Rattle.racp_model.proofs.lemmas.Sums.{sum_below-lt, sum_below-bound}

-- a job counts at most once
pub is_lower-most : (rank : ℕ → ℕ) (i j : ℕ) → is_lower rank i j ≤ 1
unfolding is_lower
is_lower-most rank i j = grind (arith, nat_tests)

-- at most all jobs have a lower rank
pub lower_count-most : (n : ℕ) (rank : ℕ → ℕ) (i : ℕ) → lower_count n rank i ≤ n
lower_count-most n rank i = omega (arith, sum_below-bound n 1 (is_lower rank i) (λ j l. is_lower-most rank i j))

-- no job is lower than itself
pub is_lower-itself : (rank : ℕ → ℕ) (i : ℕ) → is_lower rank i i ≡ 0
unfolding is_lower
is_lower-itself rank i = grind (arith, nat_tests)

-- what is lower than a job is lower than one of higher rank
pub is_lower-mono : (rank : ℕ → ℕ) (i j m : ℕ) → rank i < rank j → is_lower rank i m ≤ is_lower rank j m
unfolding is_lower
is_lower-mono rank i j m less = elim (cases_lt (rank m) (rank i)) [
  | inl low ↦ let low' : rank m < rank j = omega arith in grind (arith, nat_tests)
  | inr high ↦ grind (arith, nat_tests)
]

-- a job is lower than one of higher rank
pub is_lower-above : (rank : ℕ → ℕ) (i j : ℕ) → rank i < rank j → is_lower rank j i ≡ 1
unfolding is_lower
is_lower-above rank i j less = grind (arith, nat_tests)

-- the count rises with the rank
pub lower_count-rises : (n : ℕ) (rank : ℕ → ℕ) (i j : ℕ) → i < n → rank i < rank j → lower_count n rank i < lower_count n rank j
lower_count-rises n rank i j l less =
    sum_below-lt n (is_lower rank i) (is_lower rank j) i (λ m o. is_lower-mono rank i j m less) l
    (omega (arith, is_lower-itself rank i, is_lower-above rank i j less))

-- a job is not lower than itself, so the count is below the number of jobs
pub lower_count-below : (n : ℕ) (rank : ℕ → ℕ) (i : ℕ) → i < n → lower_count n rank i < n
lower_count-below n rank i l =
    omega (
      arith,
      sum_below-lt n (is_lower rank i) (λ _. 1) i (λ m o. is_lower-most rank i m) l (omega (arith, is_lower-itself rank i)),
      sum_below-bound n 1 (λ _. 1) (λ m o. omega arith),
    )
