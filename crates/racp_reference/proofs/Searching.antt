-- Looking at the vectors of a box in lexicographic order until one has a property.
use Rattle.std.proofs.Common.{◌≡◌, ℕ, List, length, inl, inr, arith, subst}
use Rattle.racp_model.specs.Project.{Project}
use Rattle.racp_model.specs.Terms.{IsLexBefore}
use Rattle.racp_model.specs.Plan.{IsLeast}
use Rattle.racp_model.specs.Window.{Bounds, LiesIn, IsNo}
use Rattle.racp_model.proofs.lemmas.Orders.{lex_ordered, first_from_lex}
use Rattle.racp_reference.specs.Boxes.{IsBox, IsInBox, IsNext, IsLast}

-- a vector of a box, before which no vector of the box has the property
pub record IsReached (lower upper : List ℕ) (P : List ℕ → Type 0) (vector : List ℕ) : Type 0 where
  pub within : IsInBox lower upper vector
  pub none : (earlier : List ℕ) → IsInBox lower upper earlier → IsLexBefore earlier vector → P earlier → ⊥

-- the lower bounds are in the box
pub lower-within : (lower upper : List ℕ) → length lower ≡ length upper → IsBox lower upper → IsInBox lower upper lower
lower-within lower upper same box = record {
  lower_places = omega arith;
  upper_places = omega (arith, same);
  above = λ i l. omega arith;
  below = box;
}

-- and nothing of the box is before them
pub lower-first : (lower upper vector : List ℕ) → IsInBox lower upper vector → IsLexBefore vector lower → ⊥
lower-first lower upper vector h before =
    let k = first_from_lex vector lower (omega (arith, h.lower_places)) before in
    omega (arith, k.3, h.above k.0 k.1)

-- so the lower bounds are reached first
pub reached_first : (lower upper : List ℕ) (P : List ℕ → Type 0) → length lower ≡ length upper → IsBox lower upper → IsReached lower upper P lower
reached_first lower upper P same box = record {
  within = lower-within lower upper same box;
  none = λ earlier h before holds. lower-first lower upper earlier h before;
}

-- what is before the next vector is before this one, or is this one
pub before_next : (lower upper vector next earlier : List ℕ) (Q : Type 0) → IsNext lower upper vector next → IsInBox lower upper earlier → IsLexBefore earlier next →
    (IsLexBefore earlier vector → Q) → (earlier ≡ vector → Q) → Q
before_next lower upper vector next earlier Q n h before less same = elim (lex_ordered earlier vector) [
  | inl first ↦ less first
  | inr other ↦ elim other [
    | inl equal ↦ same equal
    | inr after ↦ absurd (n.least earlier (record { within = h; greater = after }) before)
  ]
]

-- what is in the box is before the last vector, or is the last one
pub before_last : (lower upper vector earlier : List ℕ) (Q : Type 0) → IsLast lower upper vector → IsInBox lower upper earlier →
    (IsLexBefore earlier vector → Q) → (earlier ≡ vector → Q) → Q
before_last lower upper vector earlier Q last h less same = elim (lex_ordered earlier vector) [
  | inl first ↦ less first
  | inr other ↦ elim other [
    | inl equal ↦ same equal
    | inr after ↦ absurd (last earlier (record { within = h; greater = after }))
  ]
]

-- where this vector has not the property, the next one is reached
pub reached_next : (lower upper : List ℕ) (P : List ℕ → Type 0) (vector next : List ℕ) → IsReached lower upper P vector → (P vector → ⊥) → IsNext lower upper vector next → IsReached lower upper P next
reached_next lower upper P vector next h not n = record {
  within = n.is.within;
  none = λ earlier box before holds. before_next lower upper vector next earlier ⊥ n box before (λ less. h.none earlier box less holds) (λ same. not (subst P same holds));
}

-- and after the last one, none has
pub reached_all : (lower upper : List ℕ) (P : List ℕ → Type 0) (vector : List ℕ) → IsReached lower upper P vector → (P vector → ⊥) → IsLast lower upper vector →
    (other : List ℕ) → IsInBox lower upper other → P other → ⊥
reached_all lower upper P vector h not last other box holds =
    before_last lower upper vector other ⊥ last box (λ less. h.none other box less holds) (λ same. not (subst P same holds))

-- a reached vector that has the property is the least that has, where all that have are in the box
pub reached_least : (lower upper : List ℕ) (P : List ℕ → Type 0) (vector : List ℕ) → IsReached lower upper P vector → P vector →
    ((other : List ℕ) → P other → IsInBox lower upper other) → IsLeast IsLexBefore P vector
reached_least lower upper P vector h holds all = record {
  is = holds;
  least = λ other has before. h.none other (all other has) before has;
}

-- starts in a window are vectors of the box of its bounds
pub lies-within : (p : Project) (window : Bounds) (starts : List ℕ) → length window.lower ≡ length p.jobs → length window.upper ≡ length p.jobs →
    LiesIn p window starts → IsInBox window.lower window.upper starts
lies-within p window starts low high h = record {
  lower_places = omega (arith, low, h.places);
  upper_places = omega (arith, high, h.places);
  above = λ i l. h.above i (omega (arith, l, h.places));
  below = λ i l. h.below i (omega (arith, l, h.places));
}

-- and the other way round
pub within-lies : (p : Project) (window : Bounds) (starts : List ℕ) → length window.lower ≡ length p.jobs → IsInBox window.lower window.upper starts → LiesIn p window starts
within-lies p window starts low h = record {
  places = omega (arith, low, h.lower_places);
  above = λ i l. h.above i (omega (arith, l, low, h.lower_places));
  below = λ i l. h.below i (omega (arith, l, low, h.lower_places));
}

-- without a box there are none
pub no_box : (p : Project) (capacities : List ℕ) (window : Bounds) → length window.lower ≡ length p.jobs → (IsBox window.lower window.upper → ⊥) → IsNo p capacities window
no_box p capacities window low not starts h =
    not (λ i l. omega (arith, h.lies.above i (omega (arith, low)), h.lies.below i (omega (arith, low))))
