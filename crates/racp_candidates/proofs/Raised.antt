-- A child stands after its parent, has no other parent, and is on the way to each vector that its parent leads to.
use Rattle.std.proofs.Common.{◌≡◌, ◌≢◌, ◌⊎◌, ℕ, ◌+◌, ◌-◌, ◌*◌, ◌<◌, ◌≤◌, List, length, slice_index, set, inl, inr, arith, refl, sym, ◌∙◌, ap, subst}
use Rattle.std.proofs.Math.Nat.{mul-le-mul_left}
use Rattle.std.proofs.lemmas.Bool.{cases_lt}
use Rattle.std.proofs.lemmas.List.{length-set}
use Rattle.std.proofs.lemmas.Grind.{same_number_lists}
use Rattle.racp_model.specs.Terms.{Terms, cost, IsLexBefore, IsBefore}
use Rattle.racp_model.proofs.lemmas.Lists.{at_set}
use Rattle.racp_model.proofs.lemmas.Sums.{sum_below-mono}
use Rattle.racp_model.proofs.lemmas.Orders.{HasFirstPlace, first_from_lex, lex_ordered}
use Rattle.racp_model.proofs.lemmas.Costs.{cheaper-before, lesser-before}
use Rattle.racp_candidates.specs.Box.{IsBetween}
use Rattle.racp_candidates.specs.Vectors.{IsChildAt, IsChild, LeadsTo}
use Rattle.racp_candidates.proofs.Reached.{IsNoLater}

module _ (terms : Terms) where
  -- a vector with at least as many units everywhere costs no less
  pub cost_grows : (a b : List ℕ) → ((k : ℕ) → k < length terms.prices → slice_index a k ≤ slice_index b k) → cost terms a ≤ cost terms b
  cost_grows a b h =
      sum_below-mono (length terms.prices) (λ k. slice_index terms.prices k * (slice_index a k - slice_index terms.owned k)) (λ k. slice_index terms.prices k * (slice_index b k - slice_index terms.owned k))
      (λ k l.
      let less : slice_index a k - slice_index terms.owned k ≤ slice_index b k - slice_index terms.owned k = omega (arith, h k l) in
      mul-le-mul_left (slice_index terms.prices k) less)

  -- and stands no earlier
  pub fewer_no_later : (a b : List ℕ) → length terms.prices ≡ length a → length b ≡ length a → ((k : ℕ) → k < length a → slice_index a k ≤ slice_index b k) → IsNoLater terms a b
  fewer_no_later a b prices places h = go (lex_ordered a b)
    where
      cheap : cost terms a ≤ cost terms b
      cheap = cost_grows a b (λ k l. h k (omega (arith, l, prices)))

      less : IsLexBefore a b → IsNoLater terms a b
      less lex = elim (cases_lt (cost terms a) (cost terms b)) [
        | inl cheaper ↦ inr (cheaper-before terms a b cheaper)
        | inr most ↦ let tie : cost terms a ≡ cost terms b = omega (arith, most, cheap) in inr (lesser-before terms a b tie lex)
      ]

      go : IsLexBefore a b ⊎ ((a ≡ b) ⊎ IsLexBefore b a) → IsNoLater terms a b
      go (inl lex) = less lex
      go (inr (inl same)) = inl same
      go (inr (inr back)) =
          let first : HasFirstPlace b a = first_from_lex b a places back in
          absurd (omega (arith, first.3, h first.0 (omega (arith, first.1, places))))

module _ (floors roofs : List ℕ) where
  -- a vector with one unit more where there is room is between floors and roofs
  pub raised_between : (v : List ℕ) (j : ℕ) → j < length floors → slice_index v j < slice_index roofs j → IsBetween floors roofs v → IsBetween floors roofs (set v j (slice_index v j + 1))
  raised_between v j l room h = record { places = length-set v j (slice_index v j + 1) ∙ h.places; above = above; below = below }
    where
      within : j < length v
      within = omega (arith, l, h.places)

      above : (k : ℕ) → k < length floors → slice_index floors k ≤ slice_index (set v j (slice_index v j + 1)) k
      above k m = elim (at_set v j (slice_index v j + 1) k within) [
        | inl here ↦ let same : slice_index v k ≡ slice_index v j = ap (slice_index v) here.0 in omega (arith, here.1, same, h.above k m)
        | inr other ↦ omega (arith, other.1, h.above k m)
      ]

      below : (k : ℕ) → k < length floors → slice_index (set v j (slice_index v j + 1)) k ≤ slice_index roofs k
      below k m = elim (at_set v j (slice_index v j + 1) k within) [
        | inl here ↦ let same : slice_index roofs k ≡ slice_index roofs j = ap (slice_index roofs) here.0 in omega (arith, here.1, same, room)
        | inr other ↦ omega (arith, other.1, h.below k m)
      ]

  pub child_between : (v c : List ℕ) → IsBetween floors roofs v → IsChild floors roofs v c → IsBetween floors roofs c
  child_between v c h child =
      subst (IsBetween floors roofs) (sym child.1.is) (raised_between v child.0 child.1.is_place child.1.room h)

  -- at each place a child has what its parent has, or one unit more
  pub child_at : (v c : List ℕ) (j : ℕ) → IsBetween floors roofs v → IsChildAt floors roofs v j c → (k : ℕ) →
      ((k ≡ j) × (slice_index c k ≡ slice_index v k + 1)) ⊎ ((k ≢ j) × (slice_index c k ≡ slice_index v k))
  child_at v c j h child k =
      let within : j < length v = omega (arith, child.is_place, h.places) in
      let is : slice_index c k ≡ slice_index (set v j (slice_index v j + 1)) k = ap (λ (w : List ℕ). slice_index w k) child.is in
      elim (at_set v j (slice_index v j + 1) k within) [
        | inl here ↦ let same : slice_index v k ≡ slice_index v j = ap (slice_index v) here.0 in inl (here.0, omega (arith, is, here.1, same))
        | inr other ↦ inr (other.0, is ∙ other.1)
      ]

  -- a vector that leads to another has no more units anywhere
  pub leads_no_later : (terms : Terms) (a b : List ℕ) → length terms.prices ≡ length floors → IsBetween floors roofs a → IsBetween floors roofs b → LeadsTo floors a b → IsNoLater terms a b
  leads_no_later terms a b prices ha hb leads =
      fewer_no_later terms a b (prices ∙ sym ha.places) (hb.places ∙ sym ha.places) (λ k l. leads.below k (omega (arith, l, ha.places)))

  -- so a child stands after its parent
  pub child_no_later : (terms : Terms) (v c : List ℕ) → length terms.prices ≡ length floors → IsBetween floors roofs v → IsChild floors roofs v c → IsBefore terms v c
  child_no_later terms v c prices h child = go (fewer_no_later terms v c (prices ∙ sym h.places) (after.places ∙ sym h.places) grows)
    where
      after : IsBetween floors roofs c
      after = child_between v c h child

      grows : (k : ℕ) → k < length v → slice_index v k ≤ slice_index c k
      grows k l = elim (child_at v c child.0 h child.1 k) [
        | inl here ↦ omega (arith, here.1)
        | inr other ↦ omega (arith, other.1)
      ]

      go : IsNoLater terms v c → IsBefore terms v c
      go (inr before) = before
      go (inl same) =
          let at : slice_index v child.0 ≡ slice_index c child.0 = ap (λ (w : List ℕ). slice_index w child.0) same in
          elim (child_at v c child.0 h child.1 child.0) [
            | inl here ↦ absurd (omega (arith, here.1, at))
            | inr other ↦ absurd (other.0 refl)
          ]

  -- two parents of a child are raised at the same place
  pub no_other_place : (v w c : List ℕ) (i j : ℕ) → IsBetween floors roofs v → IsBetween floors roofs w → IsChildAt floors roofs v i c → IsChildAt floors roofs w j c → i < j → ⊥
  no_other_place v w c i j hv hw child other less =
      let floor : slice_index v j ≡ slice_index floors j = child.at_floors j less other.is_place in
      let low : slice_index floors j ≤ slice_index w j = hw.above j other.is_place in
      elim (child_at v c i hv child j) [
        | inl here ↦ omega (arith, here.0, less)
        | inr same ↦ elim (child_at w c j hw other j) [
          | inl up ↦ omega (arith, up.1, same.1, floor, low)
          | inr apart ↦ apart.0 refl
        ]
      ]

  pub one_parent_at : (v w c : List ℕ) (j : ℕ) → IsBetween floors roofs v → IsBetween floors roofs w → IsChildAt floors roofs v j c → IsChildAt floors roofs w j c → v ≡ w
  one_parent_at v w c j hv hw child other = same_number_lists v w (hv.places ∙ sym hw.places) (λ k l. at k (child_at v c j hv child k) (child_at w c j hw other k))
    where
      at : (k : ℕ) → ((k ≡ j) × (slice_index c k ≡ slice_index v k + 1)) ⊎ ((k ≢ j) × (slice_index c k ≡ slice_index v k)) →
          ((k ≡ j) × (slice_index c k ≡ slice_index w k + 1)) ⊎ ((k ≢ j) × (slice_index c k ≡ slice_index w k)) → slice_index v k ≡ slice_index w k
      at k (inl a) (inl b) = omega (arith, a.1, b.1)
      at k (inl a) (inr b) = absurd (b.0 a.0)
      at k (inr a) (inl b) = absurd (a.0 b.0)
      at k (inr a) (inr b) = sym a.1 ∙ b.1

  -- a vector has one parent
  pub one_parent : (v w c : List ℕ) → IsBetween floors roofs v → IsBetween floors roofs w → IsChild floors roofs v c → IsChild floors roofs w c → v ≡ w
  one_parent v w c hv hw child other = elim (cases_lt child.0 other.0) [
    | inl less ↦ absurd (no_other_place v w c child.0 other.0 hv hw child.1 other.1 less)
    | inr most ↦ elim (cases_lt other.0 child.0) [
      | inl more ↦ absurd (no_other_place w v c other.0 child.0 hw hv other.1 child.1 more)
      | inr least ↦
          let e : other.0 ≡ child.0 = omega (arith, most, least) in
          let at : IsChildAt floors roofs w child.0 c = let P : ℕ → Type 0 = λ n. IsChildAt floors roofs w n c in subst P e other.1 in
          one_parent_at v w c child.0 hv hw child.1 at
    ]
  ]

  -- a vector that leads to another is that one, or has a child that leads to it
  abbrev pub HasStep : List ℕ → List ℕ → Type 0
  HasStep a b = (c : List ℕ) × IsChild floors roofs a c × LeadsTo floors c b

  pub step_at : (a b : List ℕ) → IsBetween floors roofs a → IsBetween floors roofs b → LeadsTo floors a b → HasFirstPlace a b → HasStep a b
  step_at a b ha hb leads first = (child, (j, is_child), record { below = below; at_floors = at_floors })
    where
      j : ℕ
      j = first.0

      within : j < length floors
      within = omega (arith, first.1, ha.places)

      child : List ℕ
      child = set a j (slice_index a j + 1)

      is_child : IsChildAt floors roofs a j child
      is_child = record {
        is_place = within;
        at_floors = λ k more l. leads.at_floors j k more l first.3;
        room = omega (arith, first.3, hb.below j within);
        is = refl;
      }

      below : (k : ℕ) → k < length floors → slice_index child k ≤ slice_index b k
      below k l = elim (child_at a child j ha is_child k) [
        | inl here ↦
            let left : slice_index a k ≡ slice_index a j = ap (slice_index a) here.0 in
            let right : slice_index b k ≡ slice_index b j = ap (slice_index b) here.0 in
            omega (arith, here.1, left, right, first.3)
        | inr other ↦ omega (arith, other.1, leads.below k l)
      ]

      at_floors : (i k : ℕ) → i < k → k < length floors → slice_index child i < slice_index b i → slice_index child k ≡ slice_index floors k
      at_floors i k more l less = elim (cases_lt i j) [
        | inl early ↦ elim (child_at a child j ha is_child i) [
          | inl here ↦ absurd (omega (arith, here.0, early))
          | inr other ↦ absurd (omega (arith, other.1, less, first.2 i early))
        ]
        | inr late ↦ elim (child_at a child j ha is_child k) [
          | inl here ↦ absurd (omega (arith, here.0, late, more))
          | inr other ↦ other.1 ∙ leads.at_floors j k (omega (arith, late, more)) l first.3
        ]
      ]

  pub leads_step : (a b : List ℕ) → IsBetween floors roofs a → IsBetween floors roofs b → LeadsTo floors a b → a ≢ b → HasStep a b
  leads_step a b ha hb leads apart = go (lex_ordered a b)
    where
      go : IsLexBefore a b ⊎ ((a ≡ b) ⊎ IsLexBefore b a) → HasStep a b
      go (inl lex) = step_at a b ha hb leads (first_from_lex a b (ha.places ∙ sym hb.places) lex)
      go (inr (inl same)) = absurd (apart same)
      go (inr (inr back)) =
          let first : HasFirstPlace b a = first_from_lex b a (hb.places ∙ sym ha.places) back in
          absurd (omega (arith, first.3, leads.below first.0 (omega (arith, first.1, hb.places))))

  -- the floors lead to each vector, and are no child
  pub floors_lead : (v : List ℕ) → IsBetween floors roofs v → LeadsTo floors floors v
  floors_lead v h = record { below = h.above; at_floors = λ j k less l more. refl }

  pub floors_no_child : (v : List ℕ) → IsBetween floors roofs v → IsChild floors roofs v floors → ⊥
  floors_no_child v h child = elim (child_at v floors child.0 h child.1 child.0) [
    | inl here ↦ omega (arith, here.1, h.above child.0 child.1.is_place)
    | inr other ↦ other.0 refl
  ]
