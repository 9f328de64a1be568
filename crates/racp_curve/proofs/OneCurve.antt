-- An order has one curve.
use Rattle.std.proofs.Common.{◌≡◌, ◌∙◌, ℕ, ◌+◌, ◌<◌, List, [], ◌∷◌, refl, sym, ap, inl, inr, arith}
use Rattle.std.proofs.lemmas.Bool.{cases_lt}
use Rattle.racp_model.specs.Project.{Project}
use Rattle.racp_model.specs.Terms.{Terms, cost, IsBefore}
use Rattle.racp_model.specs.Plan.{IsEnough}
use Rattle.racp_model.proofs.lemmas.Orders.{least_unique, vectors_ordered}
use Rattle.racp_curve.specs.declared.step.Step.{Step}
use Rattle.racp_curve.specs.Curves.{order_by, ArePlanned, first_deadline, AreSteps, IsCurve}
use Rattle.racp_curve.proofs.Growing.{first_within}

module _ (p : Project) (terms : Terms) where
  -- the plan for a deadline has these capacities and no others
  same_planned : (deadline : ℕ) (a b : List ℕ) → ArePlanned p (order_by deadline terms) a → ArePlanned p (order_by deadline terms) b → a ≡ b
  same_planned deadline a b h k = least_unique (IsBefore (order_by deadline terms)) (IsEnough p (order_by deadline terms)) (vectors_ordered (order_by deadline terms)) a b h k

  -- steps that begin with the same one go on at the same deadline
  next_not_before : (a b : Step) (rest others : List Step) → AreSteps p terms (a ∷ rest) → AreSteps p terms (b ∷ others) → a.deadline ≡ b.deadline → a.capacities ≡ b.capacities →
      first_deadline (terms.deadline + 1) rest < first_deadline (terms.deadline + 1) others → ⊥
  next_not_before a b [] others h k same capacities less = omega (arith, less, first_within p terms others k.2)
  next_not_before a b (next ∷ rest) others h k same capacities less =
      let of_next : ArePlanned p (order_by next.deadline terms) next.capacities = h.2.0.planned next.deadline (omega arith) h.2.0.some in
      let of_b : ArePlanned p (order_by next.deadline terms) b.capacities = k.0.planned next.deadline (omega (arith, same, h.0.some)) less in
      h.1 (capacities ∙ same_planned next.deadline b.capacities next.capacities of_b of_next)

  one_step : (a b : Step) → a.deadline ≡ b.deadline → a.capacities ≡ b.capacities → a.cost ≡ cost terms a.capacities → b.cost ≡ cost terms b.capacities → a ≡ b
  one_step a b deadline capacities of_a of_b =
      let price : a.cost ≡ b.cost = of_a ∙ (ap (cost terms) capacities ∙ sym of_b) in
      λ i. record { deadline = deadline i; cost = price i; capacities = capacities i }

  -- steps that begin at the same deadline are the same
  one_row : (steps others : List Step) → AreSteps p terms steps → AreSteps p terms others → first_deadline (terms.deadline + 1) steps ≡ first_deadline (terms.deadline + 1) others → steps ≡ others
  one_row [] [] h k same = refl
  one_row [] (b ∷ others) h k same = absurd (omega (arith, same, k.0.some, first_within p terms others k.2))
  one_row (a ∷ rest) [] h k same = absurd (omega (arith, same, h.0.some, first_within p terms rest h.2))
  one_row (a ∷ rest) (b ∷ others) h k same =
      let of_a : ArePlanned p (order_by a.deadline terms) a.capacities = h.0.planned a.deadline (omega arith) h.0.some in
      let of_b : ArePlanned p (order_by a.deadline terms) b.capacities = k.0.planned a.deadline (omega (arith, same)) (omega (arith, same, k.0.some)) in
      let capacities : a.capacities ≡ b.capacities = same_planned a.deadline a.capacities b.capacities of_a of_b in
      let first : a ≡ b = one_step a b same capacities h.0.priced k.0.priced in
      let next : first_deadline (terms.deadline + 1) rest ≡ first_deadline (terms.deadline + 1) others = elim (cases_lt (first_deadline (terms.deadline + 1) rest) (first_deadline (terms.deadline + 1) others)) [
        | inl less ↦ absurd (next_not_before a b rest others h k same capacities less)
        | inr more ↦ elim (cases_lt (first_deadline (terms.deadline + 1) others) (first_deadline (terms.deadline + 1) rest)) [
          | inl less ↦ absurd (next_not_before b a others rest k h (sym same) (sym capacities) less)
          | inr least ↦ omega (arith, more, least)
        ]
      ] in
      ap (λ (s : Step). s ∷ rest) first ∙ ap (λ (s : List Step). b ∷ s) (one_row rest others h.2 k.2 next)

  -- curves begin at the same deadline
  first_not_before : (steps others : List Step) → IsCurve p terms steps → IsCurve p terms others → first_deadline (terms.deadline + 1) steps < first_deadline (terms.deadline + 1) others → ⊥
  first_not_before [] others h k less = omega (arith, less, first_within p terms others k.are_steps)
  first_not_before (step ∷ rest) others h k less =
      let planned : ArePlanned p (order_by step.deadline terms) step.capacities = h.are_steps.0.planned step.deadline (omega arith) h.are_steps.0.some in
      k.none step.deadline less step.capacities planned.is

  pub one_curve : (steps others : List Step) → IsCurve p terms steps → IsCurve p terms others → steps ≡ others
  one_curve steps others h k = elim (cases_lt (first_deadline (terms.deadline + 1) steps) (first_deadline (terms.deadline + 1) others)) [
    | inl less ↦ absurd (first_not_before steps others h k less)
    | inr more ↦ elim (cases_lt (first_deadline (terms.deadline + 1) others) (first_deadline (terms.deadline + 1) steps)) [
      | inl less ↦ absurd (first_not_before others steps k h less)
      | inr least ↦ one_row steps others h.are_steps k.are_steps (omega (arith, more, least))
    ]
  ]
