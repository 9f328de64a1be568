-- In which columns a job is drawn.
use Rattle.std.proofs.Common.{ℕ, ◌+◌, ◌-◌, ◌*◌, ◌/◌, ◌<◌, ◌≤◌, inl, inr, arith}
use Rattle.std.specs.Int.{div_ceil}
use Rattle.std.proofs.Math.Nat.{mul-le-mul_right}
use Rattle.std.proofs.lemmas.Bool.{cases_lt}
use Rattle.std.proofs.lemmas.Grind.{div_ceil_times}
use Rattle.std.proofs.lemmas.Nat.{div-add-mod', le-div, mod_below, div_below}
use Rattle.racp_show.specs.Laws.{IsInColumn, DrawnWhereItRuns, DrawnInColumns}

-- a time is in the column that the quotient tells
in_column : (span t : ℕ) → 0 < span → IsInColumn span (t / span) t
in_column span t some = (omega (arith, div-add-mod' t span), omega (arith, div-add-mod' t span, mod_below t span some))

-- and in no other: a column with a time from t on is no earlier
no_earlier : (span c s t : ℕ) → 0 < span → s ≤ t → t < c * span + span → s / span ≤ c
no_earlier span c s t some later within = elim (cases_lt c (s / span)) [
  | inl before ↦ absurd (omega (arith, div-add-mod' s span, later, within, mul-le-mul_right {m = c + 1} {n = s / span} span (omega (arith, before))))
  | inr after ↦ after
]

-- a time between that lies in a column between the first and the last
time_in : (span start last c : ℕ) → 0 < span → start ≤ last → start / span ≤ c → c ≤ last / span → (t : ℕ) × (start ≤ t) × (t ≤ last) × IsInColumn span c t
time_in span start last c some order from to = elim (cases_lt (c * span) start) [
  | inl inside ↦ (
    start,
    omega arith,
    order,
    (
      omega (arith, inside),
      omega (arith, div-add-mod' start span, mod_below start span some, mul-le-mul_right {m = start / span} {n = c} span from),
    ),
  )
  | inr outside ↦ (
    c * span,
    outside,
    omega (arith, div-add-mod' last span, mul-le-mul_right {m = c} {n = last / span} span to),
    (omega arith, omega (arith, some)),
  )
]

pub drawn_where_it_runs : DrawnWhereItRuns
drawn_where_it_runs span columns start end bar some runs h c = (
  λ there.
      let t = time_in span start (end - 1) c some (omega (arith, runs)) (omega (arith, h.begins runs, there.0)) (omega (arith, h.stops runs, there.1)) in
      (t.0, t.1, omega (arith, t.2, runs), t.3),
  λ t. (
    omega (arith, h.begins runs, no_earlier span c start t.0 some t.1 t.3.1),
    omega (arith, h.stops runs, le-div c (end - 1) span some (omega (arith, t.2, t.3.0))),
  ),
)

pub drawn_in_columns : DrawnInColumns
drawn_in_columns deadline most span columns start end bar scale runs within h =
    let some : 0 < span = omega (arith, scale.least.is.0) in
    omega (
      arith,
      h.stops runs,
      scale.count,
      div_below (end - 1) span (div_ceil deadline span) some (omega (arith, within, runs, (div_ceil_times deadline span some).0)),
    )
