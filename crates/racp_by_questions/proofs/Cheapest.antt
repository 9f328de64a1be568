-- What capacities cost at least, where a box has all of the cheaper ones.
use Rattle.std.proofs.Common.{◌≡◌, ℕ, ◌≤◌, List, length, inl, inr, arith}
use Rattle.std.proofs.lemmas.Bool.{cases_lt}
use Rattle.racp_model.specs.Terms.{cost, IsBefore}
use Rattle.racp_model.proofs.lemmas.Costs.{cheaper-before}
use Rattle.racp_candidates.specs.Box.{IsBetween}
use Rattle.racp_by_questions.specs.Enough.{AreFloorsOf}
use Rattle.racp_by_questions.specs.Searched.{CostAtLeast, HasAllBelow, IsEnough, IsKnown, IsSearched, IsSpan, IsSubject}
use Rattle.racp_by_questions.specs.declared.span.Span.{Span}
use Rattle.racp_by_questions.specs.declared.known.Known.{Known}
use Rattle.racp_by_questions.specs.declared.subject.Subject.{Subject}
use Rattle.racp_by_questions.proofs.Halves.{AreHalves}
use Rattle.racp_by_questions.proofs.lemmas.AtMost.{at_most-cost}

module _ (s : Subject) (t : IsSubject s) where
  -- the whole box has all
  pub whole-has_all : (floors : List ℕ) (rest : ℕ) → AreFloorsOf s.net.now s.root.now floors s.roofs.now → HasAllBelow s (record { low = floors; high = s.roofs.now }) rest
  whole-has_all floors rest are vector e less = record {
    places = omega (arith, e.places, are.places);
    above = λ k l. are.below vector e k (omega (arith, l, are.places));
    below = λ k l. e.within k (omega (arith, l, are.places));
  }

  -- these vectors are a box
  pub whole-span : (floors : List ℕ) → AreFloorsOf s.net.now s.root.now floors s.roofs.now → IsEnough s s.roofs.now → IsSpan s (record { low = floors; high = s.roofs.now })
  whole-span floors are enough = record { low = are.places; high = enough.places; bounds = are.below s.roofs.now enough; within = enough.within }

  -- a vector of a box costs at least what the low one does
  low-cost : (span : Span) (vector : List ℕ) → length span.low ≡ s.net.now.resources → IsBetween span.low span.high vector → cost s.order.now span.low ≤ cost s.order.now vector
  low-cost span vector places between = at_most-cost s.net.now s.order.now t.terms span.low vector (λ k l. between.above k (omega (arith, l, places)))

  module _ (span : Span) (is_span : IsSpan s span) (rest : ℕ) (has : HasAllBelow s span rest) where
    -- so what is enough costs at least that, or what the rest does
    pub told-least : (least : ℕ) → least ≤ cost s.order.now span.low → least ≤ rest → CostAtLeast s least
    told-least least low other vector e = elim (cases_lt (cost s.order.now vector) rest) [
      | inl less ↦ omega (arith, low, low-cost span vector is_span.low (has vector e less))
      | inr more ↦ omega (arith, more, other)
    ]

    module _ (next : Known) (known : IsKnown s next) (halves : Span × Span) (are : AreHalves s span next.best halves) where
      -- the half with fewer units has what is cheaper than the best one, and than the other half
      pub below-has_all : (most : ℕ) → most ≤ rest → most ≤ next.cost → most ≤ cost s.order.now halves.1.low → HasAllBelow s halves.0 most
      below-has_all most than_rest than_best than_above vector e less =
          elim (are.cover vector (has vector e (omega (arith, less, than_rest))) (cheaper-before s.order.now vector next.best (omega (arith, less, than_best, known.priced)))) [
            | inl low ↦ low
            | inr high ↦ absurd (omega (arith, less, than_above, low-cost halves.1 vector are.above.low high))
          ]

      -- and once it was searched, the other half has what is cheaper than the best one
      pub above-has_all : (mid : Known) (most : ℕ) → IsSearched s halves.0 next mid → most ≤ rest → most ≤ mid.cost → HasAllBelow s halves.1 most
      above-has_all mid most first than_rest than_best vector e less =
          let before : IsBefore s.order.now vector mid.best = cheaper-before s.order.now vector mid.best (omega (arith, less, than_best, first.better.known.priced)) in
          elim (are.cover vector (has vector e (omega (arith, less, than_rest))) (first.better.no_later vector before)) [
            | inl low ↦ absurd (first.none vector low e.yes before)
            | inr high ↦ high
          ]
