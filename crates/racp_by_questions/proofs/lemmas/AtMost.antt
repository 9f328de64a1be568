-- A vector that is at most another, resource by resource, and the order of vectors.
use Rattle.std.proofs.Common.{◌≡◌, ℕ, ◌-◌, ◌*◌, ◌≤◌, List, length, slice_index, inl, inr, arith, sym, subst}
use Rattle.std.proofs.Math.Nat.{mul-le-mul_left}
use Rattle.std.proofs.lemmas.Bool.{cases_lt}
use Rattle.racp_model.specs.Project.{Project}
use Rattle.racp_model.specs.Terms.{Terms, AreTermsOf, cost, IsBefore, IsLexBefore}
use Rattle.racp_model.proofs.lemmas.Sums.{sum_below-mono}
use Rattle.racp_model.proofs.lemmas.Orders.{HasFirstPlace, first_from_lex, lex_ordered}
use Rattle.racp_model.proofs.lemmas.Costs.{before_cases, cheaper-before, lesser-before, lex_trans}
use Rattle.racp_by_questions.specs.Enough.{IsAtMost}

module _ (p : Project) (terms : Terms) (t : AreTermsOf p terms) (low high : List ℕ) (above : IsAtMost p low high) where
  -- it costs no more
  pub at_most-cost : cost terms low ≤ cost terms high
  at_most-cost =
      sum_below-mono (length terms.prices) (λ k. slice_index terms.prices k * (slice_index low k - slice_index terms.owned k)) (λ k. slice_index terms.prices k * (slice_index high k - slice_index terms.owned k))
      (λ k l.
      let fewer : slice_index low k - slice_index terms.owned k ≤ slice_index high k - slice_index terms.owned k = omega (arith, above k (omega (arith, l, t.price_places))) in
      mul-le-mul_left (slice_index terms.prices k) fewer)

  module _ (low_places : length low ≡ p.resources) (high_places : length high ≡ p.resources) where
    -- the other does not stand before it
    pub at_most-not_after : IsBefore terms high low → ⊥
    at_most-not_after before = elim (before_cases terms high low before) [
      | inl less ↦ omega (arith, less, at_most-cost)
      | inr tie ↦
          let k : HasFirstPlace high low = first_from_lex high low (omega (arith, low_places, high_places)) tie.1 in
          omega (arith, k.3, above k.0 (omega (arith, k.1, high_places)))
    ]

    -- and it stands before what the other stands before
    pub at_most-before : (best : List ℕ) → IsBefore terms high best → IsBefore terms low best
    at_most-before best before = elim (before_cases terms high best before) [
      | inl less ↦ cheaper-before terms low best (omega (arith, less, at_most-cost))
      | inr tie ↦ elim (cases_lt (cost terms low) (cost terms best)) [
        | inl less ↦ cheaper-before terms low best less
        | inr more ↦
            let same : cost terms low ≡ cost terms best = omega (arith, more, tie.0, at_most-cost) in
            elim (lex_ordered low high) [
              | inl lesser ↦ lesser-before terms low best same (lex_trans low high best lesser tie.1)
              | inr other ↦ elim other [
                | inl equal ↦ lesser-before terms low best same (subst (λ (x : List ℕ). IsLexBefore x best) (sym equal) tie.1)
                | inr greater ↦
                    let k : HasFirstPlace high low = first_from_lex high low (omega (arith, low_places, high_places)) greater in
                    absurd (omega (arith, k.3, above k.0 (omega (arith, k.1, high_places))))
              ]
            ]
      ]
    ]
