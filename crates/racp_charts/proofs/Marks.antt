-- The mark of an axis, looked for round by round.
use Rattle.std.proofs.Common.{◌≡◌, ◌∙◌, ℕ, zero, suc, ◌+◌, ◌-◌, ◌*◌, ◌<◌, ◌≤◌, arith, ap, sym}
use Rattle.std.proofs.lemmas.Bool.{cond-true, cond-false, le-leb, lt-leb}
use Rattle.racp_charts.specs.Texts.{mark_from}

-- the first, the second and the third mark of a round
once : (left power most : ℕ) → 0 < left → most ≤ power * 12 → mark_from left power most ≡ power
once zero power most some fits = absurd (omega (arith, some))
once (suc left) power most some fits = cond-true _ _ _ (le-leb most (power * 12) fits)

twice : (left power most : ℕ) → 0 < left → power * 12 < most → most ≤ power * 24 → mark_from left power most ≡ power * 2
twice zero power most some past fits = absurd (omega (arith, some))
twice (suc left) power most some past fits = cond-false _ _ _ (lt-leb most (power * 12) past) ∙ cond-true _ _ _ (le-leb most (power * 24) fits)

thrice : (left power most : ℕ) → 0 < left → power * 24 < most → most ≤ power * 60 → mark_from left power most ≡ power * 5
thrice zero power most some past fits = absurd (omega (arith, some))
thrice (suc left) power most some past fits =
    cond-false _ _ _ (lt-leb most (power * 12) (omega (arith, past))) ∙ cond-false _ _ _ (lt-leb most (power * 24) past) ∙ cond-true _ _ _ (le-leb most (power * 60) fits)

-- the next round
later : (left power most : ℕ) → 0 < left → power * 60 < most → mark_from left power most ≡ mark_from (left - 1) (power * 10) most
later zero power most some past = absurd (omega (arith, some))
later (suc left) power most some past =
    let one : left ≡ suc left - 1 = omega arith in
    cond-false _ _ _ (lt-leb most (power * 12) (omega (arith, past))) ∙ cond-false _ _ _ (lt-leb most (power * 24) (omega (arith, past))) ∙ cond-false _ _ _ (lt-leb most (power * 60) past) ∙ ap (λ left. mark_from left (power * 10) most) one

module _ (round power most mark : ℕ) (so_far : mark_from (18 - round) power most ≡ mark) where
  pub first_mark : round < 18 → most ≤ power * 12 → power ≡ mark
  first_mark within fits = sym (once (18 - round) power most (omega (arith, within)) fits) ∙ so_far

  pub second_mark : round < 18 → power * 12 < most → most ≤ power * 24 → power * 2 ≡ mark
  second_mark within past fits = sym (twice (18 - round) power most (omega (arith, within)) past fits) ∙ so_far

  pub third_mark : round < 18 → power * 24 < most → most ≤ power * 60 → power * 5 ≡ mark
  third_mark within past fits = sym (thrice (18 - round) power most (omega (arith, within)) past fits) ∙ so_far

  pub next_round : round < 18 → power * 60 < most → mark_from (18 - (round + 1)) (power * 10) most ≡ mark
  next_round within past =
      let left : 18 - (round + 1) ≡ 18 - round - 1 = omega (arith, within) in
      ap (λ left. mark_from left (power * 10) most) left ∙ sym (later (18 - round) power most (omega (arith, within)) past) ∙ so_far

  pub no_round : 18 ≤ round → power ≡ mark
  no_round past =
      let left : 0 ≡ 18 - round = omega (arith, past) in
      ap (λ left. mark_from left power most) left ∙ so_far
