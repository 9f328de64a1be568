-- The values of starts and units by their places.
use Rattle.std.proofs.Common.{◌≡◌, ◌∙◌, ℕ, ◌+◌, ◌-◌, ◌*◌, ◌<◌, ◌≤◌, ◌++◌, ◌∷◌, [], List, length, slice_index, get_or, inl, inr, arith, ap, subst}
use Rattle.std.proofs.lemmas.Bool.{cases_lt}
use Rattle.std.proofs.lemmas.List.{get_or_append_left, get_or-append_right, get_or_push, length-append}
use Rattle.racp_model.specs.Project.{Project}
use Rattle.racp_model.specs.Schedule.{sum_below}
use Rattle.racp_model.specs.Terms.{Terms, cost}
use Rattle.racp_clauses.specs.Solutions.{values, units_place, cost_place}

-- what holds of the place of each start, of the units of each resource and of the cost holds of each place
pub each_place : (p : Project) (P : ℕ → Type 0) → ((i : ℕ) → i < length p.jobs → P i) → ((k : ℕ) → k < p.resources → P (units_place p k)) → P (cost_place p) → (y : ℕ) → y ≤ cost_place p → P y
each_place p P of_starts of_units of_cost y l = elim (cases_lt y (length p.jobs)) [
  | inl job ↦ of_starts y job
  | inr behind ↦ elim (cases_lt y (cost_place p)) [
    | inl before ↦
        let e : units_place p (y - length p.jobs) ≡ y = omega (arith, behind) in
        subst P e (of_units (y - length p.jobs) (omega (arith, before, behind)))
    | inr last ↦
        let e : cost_place p ≡ y = omega (arith, last, l) in
        subst P e of_cost
  ]
]

module _ (p : Project) (terms : Terms) (starts capacities : List ℕ) (places : length starts ≡ length p.jobs) (resources : length capacities ≡ p.resources) where
  -- the start of a job
  pub value-start : (i : ℕ) → i < length p.jobs → slice_index (values terms starts capacities) i ≡ slice_index starts i
  unfolding values
  value-start i l = get_or_append_left starts (capacities ++ cost terms capacities ∷ []) 0 i (omega (arith, l, places))

  -- the units of a resource
  pub value-units : (k : ℕ) → k < p.resources → slice_index (values terms starts capacities) (units_place p k) ≡ slice_index capacities k
  unfolding values
  value-units k l =
      let e : length p.jobs + k - length p.jobs ≡ k = omega arith in
      get_or-append_right starts (capacities ++ cost terms capacities ∷ []) (length p.jobs) (units_place p k) 0 places (omega arith) ∙
      (ap (λ i. get_or (capacities ++ cost terms capacities ∷ []) i 0) e ∙ get_or_append_left capacities (cost terms capacities ∷ []) 0 k (omega (arith, l, resources)))

  -- the cost
  pub value-cost : slice_index (values terms starts capacities) (cost_place p) ≡ cost terms capacities
  unfolding values
  value-cost =
      let e : length p.jobs + p.resources - length p.jobs ≡ p.resources = omega arith in
      get_or-append_right starts (capacities ++ cost terms capacities ∷ []) (length p.jobs) (cost_place p) 0 places (omega arith) ∙
      (ap (λ i. get_or (capacities ++ cost terms capacities ∷ []) i 0) e ∙ get_or_push capacities (cost terms capacities) 0 p.resources resources)

  -- how many there are
  pub value-count : length (values terms starts capacities) ≡ cost_place p + 1
  unfolding values
  value-count = omega (arith, places, resources, length-append starts (capacities ++ cost terms capacities ∷ []), length-append capacities (cost terms capacities ∷ []))

-- the same units cost the same at the same prices, where as many are owned
pub cost-same : (one other : Terms) (units : List ℕ) → one.prices ≡ other.prices → one.owned ≡ other.owned → cost one units ≡ cost other units
cost-same one other units prices owned =
    ap (λ (xs : List ℕ). sum_below (length xs) (λ k. slice_index xs k * (slice_index units k - slice_index one.owned k))) prices ∙
    ap (λ (ys : List ℕ). sum_below (length other.prices) (λ k. slice_index other.prices k * (slice_index units k - slice_index ys k))) owned

-- so the values are the same
pub value-same : (one other : Terms) (starts capacities : List ℕ) → one.prices ≡ other.prices → one.owned ≡ other.owned → values one starts capacities ≡ values other starts capacities
unfolding values
value-same one other starts capacities prices owned = ap (λ c. starts ++ (capacities ++ c ∷ [])) (cost-same one other capacities prices owned)
