-- Parts that each weigh something for a stretch of time: together they weigh the most where some part begins.
use Rattle.std.proofs.Common.{◌≡◌, ℕ, zero, suc, ◌<◌, ◌≤◌, ◌⊎◌, ◌&&◌, inl, inr, nat_le, nat_lt, if◌then◌else◌, arith}
use Rattle.std.proofs.lemmas.Bool.{cases_lt}
use Rattle.std.proofs.lemmas.Bool.Decides.{nat_tests}
use Rattle.racp_model.specs.Schedule.{sum_below}
use Rattle.racp_model.proofs.lemmas.Lists.{below_suc}
use Rattle.racp_model.proofs.lemmas.Sums.{sum_below-mono, sum_below-bound}

-- what the part i weighs at t: its weight from its begin on, before its end
unfoldable pub part : (ℕ → ℕ) → (ℕ → ℕ) → (ℕ → ℕ) → ℕ → ℕ → ℕ
part begin end weight t i = if nat_le (begin i) t && nat_lt t (end i) then weight i else 0

module _ (begin end weight : ℕ → ℕ) where
  -- the part i is on at t
  abbrev pub IsOn : ℕ → ℕ → Type 0
  IsOn t i = (begin i ≤ t) × (t < end i)

  -- so it weighs its weight
  pub part-on : (t i : ℕ) → IsOn t i → part begin end weight t i ≡ weight i
  unfolding part
  part-on t i on =
      let begun : begin i ≤ t = on.0 in
      let before : t < end i = on.1 in
      grind (arith, nat_tests)

  -- and otherwise nothing
  pub part-off : (t i : ℕ) → (IsOn t i → ⊥) → part begin end weight t i ≡ 0
  unfolding part
  part-off t i off =
      elim (cases_lt t (begin i)) [
        | inl before ↦ grind (arith, nat_tests)
        | inr begun ↦ elim (cases_lt t (end i)) [
          | inl on ↦ absurd (off (begun, on))
          | inr over ↦ grind (arith, nat_tests)
        ]
      ]

  -- it is on or it is not
  pub on_cases : (t i : ℕ) → IsOn t i ⊎ (IsOn t i → ⊥)
  on_cases t i =
      elim (cases_lt t (begin i)) [
        | inl before ↦ inr (λ on. omega (arith, on.0))
        | inr begun ↦ elim (cases_lt t (end i)) [
          | inl on ↦ inl (begun, on)
          | inr over ↦ inr (λ on. omega (arith, on.1))
        ]
      ]

  -- of the parts below n that are on at t, one that begins last
  pub record IsLatest (t n j : ℕ) : Type 0 where
    pub below : j < n
    pub on : IsOn t j
    pub last : (i : ℕ) → i < n → IsOn t i → begin i ≤ begin j

  -- either no part below n is on at t, or one of them begins last
  pub latest : (t n : ℕ) → ((i : ℕ) → i < n → IsOn t i → ⊥) ⊎ ((j : ℕ) × IsLatest t n j)
  latest t zero = inl (λ i l on. omega arith)
  latest t (suc n) = elim (on_cases t n) [
    | inl now ↦ elim (latest t n) [
      | inl none ↦ inr (
        n,
        record {
          below = omega arith;
          on = now;
          last = below_suc (λ i. IsOn t i → begin i ≤ begin n) n (λ i l on. absurd (none i l on)) (λ on. omega arith);
        },
      )
      | inr some ↦ elim (cases_lt (begin n) (begin some.0)) [
        | inl before ↦ inr (
          some.0,
          record {
            below = omega (arith, some.1.below);
            on = some.1.on;
            last = below_suc (λ i. IsOn t i → begin i ≤ begin some.0) n some.1.last (λ on. omega arith);
          },
        )
        | inr after ↦ inr (
          n,
          record {
            below = omega arith;
            on = now;
            last = below_suc (λ i. IsOn t i → begin i ≤ begin n) n (λ i l on. omega (arith, some.1.last i l on, after)) (λ on. omega arith);
          },
        )
      ]
    ]
    | inr off ↦ elim (latest t n) [
      | inl none ↦ inl (below_suc (λ i. IsOn t i → ⊥) n none off)
      | inr some ↦ inr (
        some.0,
        record {
          below = omega (arith, some.1.below);
          on = some.1.on;
          last = below_suc (λ i. IsOn t i → begin i ≤ begin some.0) n some.1.last (λ on. absurd (off on));
        },
      )
    ]
  ]

  -- from t back to the latest begin, no part is lost
  pub part-at_latest : (t n j i : ℕ) → IsLatest t n j → i < n → part begin end weight t i ≤ part begin end weight (begin j) i
  part-at_latest t n j i h l = elim (on_cases t i) [
    | inl on ↦
        let there : IsOn (begin j) i = (h.last i l on, omega (arith, on.1, h.on.0)) in
        omega (arith, part-on t i on, part-on (begin j) i there)
    | inr off ↦ omega (arith, part-off t i off)
  ]

  -- a part below n begins at t or earlier, and at its begin the parts below n weigh together at least as much as at t
  abbrev pub IsWeighedAtBegin : ℕ → ℕ → ℕ → Type 0
  IsWeighedAtBegin n t j = (j < n) × (begin j ≤ t) × (sum_below n (part begin end weight t) ≤ sum_below n (part begin end weight (begin j)))

  -- at t the parts below n weigh nothing, or no more than at the begin of one of them
  pub parts-at_begin : (n t : ℕ) → (sum_below n (part begin end weight t) ≡ 0) ⊎ ((j : ℕ) × IsWeighedAtBegin n t j)
  parts-at_begin n t = elim (latest t n) [
    | inl none ↦ inl (omega (arith, sum_below-bound n 0 (part begin end weight t) (λ i l. omega (arith, part-off t i (none i l)))))
    | inr some ↦ inr (
      some.0,
      (
        some.1.below,
        some.1.on.0,
        sum_below-mono n (part begin end weight t) (part begin end weight (begin some.0)) (λ i l. part-at_latest t n some.0 i some.1 l),
      ),
    )
  ]

  -- so what the parts below n weigh together is within a bound where it is at the begin of each of them
  pub parts-within : (n most : ℕ) → ((j : ℕ) → j < n → sum_below n (part begin end weight (begin j)) ≤ most) → (t : ℕ) → sum_below n (part begin end weight t) ≤ most
  parts-within n most h t = elim (parts-at_begin n t) [
    | inl none ↦ omega (arith, none)
    | inr some ↦ omega (arith, h some.0 some.1.0, some.1.2)
  ]
