-- The least span of a column, and where a job is drawn.
use Rattle.std.proofs.Common.{◌≡◌, ℕ, ◌+◌, ◌*◌, ◌/◌, ◌<◌, ◌≤◌, max, inl, inr, ap, arith}
use Rattle.std.specs.Int.{div_ceil}
use Rattle.std.proofs.Math.Nat.{mul-le-mul_right}
use Rattle.std.proofs.lemmas.Bool.{cases_lt}
use Rattle.std.proofs.lemmas.Grind.{div_ceil_times}
use Rattle.std.proofs.lemmas.Nat.{div-add-mod', le-div}
use Rattle.racp_model.specs.Plan.{IsLeast}
use Rattle.racp_show.specs.Scales.{IsWideEnough}

-- a quotient that is rounded up is the least number of times that is enough
div_ceil-le : (a b units : ℕ) → 0 < b → a ≤ units * b → div_ceil a b ≤ units
div_ceil-le a b units some enough = elim (cases_lt units (div_ceil a b)) [
  | inl less ↦ absurd (omega (arith, (div_ceil_times a b some).1, mul-le-mul_right {m = units + 1} {n = div_ceil a b} b (omega (arith, less))))
  | inr least ↦ least
]

-- a span is wide enough where it is at least the deadline over the columns, rounded up
wide_enough : (deadline most d span : ℕ) → deadline ≤ d * most → d ≤ span → 1 ≤ span → div_ceil deadline span ≤ most
wide_enough deadline most d span enough least some =
    div_ceil-le deadline span most (omega (arith, some)) (omega (arith, enough, mul-le-mul_right {m = d} {n = span} most least))

-- and where it is less, it is not
too_narrow : (deadline most d span : ℕ) → d * most < deadline + most → 1 ≤ span → div_ceil deadline span ≤ most → span < d → ⊥
too_narrow deadline most d span tight some enough less =
    omega (
      arith,
      tight,
      (div_ceil_times deadline span (omega (arith, some))).0,
      mul-le-mul_right {m = div_ceil deadline span} {n = most} span enough,
      mul-le-mul_right {m = span + 1} {n = d} most (omega (arith, less)),
    )

-- so this span is the least that is wide enough
pub least_span : (deadline most d span : ℕ) → 0 < most → d ≡ div_ceil deadline most → span ≡ max 1 d → IsLeast ◌<◌ (IsWideEnough deadline most) span
least_span deadline most d span some is greater = record {
  is = (
    omega (arith, greater),
    wide_enough deadline most d span (omega (arith, ap (λ (x : ℕ). x * most) is, (div_ceil_times deadline most some).0)) (omega (arith, greater)) (omega (arith, greater)),
  );
  least = λ other enough less. too_narrow deadline most d other (omega (arith, ap (λ (x : ℕ). x * most) is, (div_ceil_times deadline most some).1)) enough.0 enough.1 (omega (arith, greater, less, enough.0));
}

-- all columns together end within twice the deadline and one more
pub columns_end : (deadline span columns : ℕ) → 0 < span → columns ≡ div_ceil deadline span → columns * span < deadline + span
columns_end deadline span columns some is = omega (arith, ap (λ (x : ℕ). x * span) is, (div_ceil_times deadline span some).1)

-- the least span is at most the deadline, or 1
pub span_small : (deadline most span : ℕ) → 0 < most → IsLeast ◌<◌ (IsWideEnough deadline most) span → span ≤ deadline + 1
span_small deadline most span some h = elim (cases_lt (deadline + 1) span) [
  | inl greater ↦ absurd (h.least (deadline + 1) (omega arith, div_ceil-le deadline (deadline + 1) most (omega arith) (omega (arith, mul-le-mul_right {m = 1} {n = most} (deadline + 1) some))) greater)
  | inr small ↦ small
]

-- a later time is in no earlier column
pub later_column : (a b span : ℕ) → 0 < span → a ≤ b → a / span ≤ b / span
later_column a b span some later = le-div (a / span) b span some (omega (arith, later, div-add-mod' a span))

-- a column is at most the time
pub column_small : (a span : ℕ) → 0 < span → a / span ≤ a
column_small a span some = omega (arith, div-add-mod' a span, mul-le-mul_right {m = 1} {n = span} (a / span) some)
