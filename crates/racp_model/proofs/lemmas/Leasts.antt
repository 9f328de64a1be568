-- Of the things in a list, or of the vectors up to some bounds, that have a property: there is a least, or there is none.
use Rattle.std.proofs.Common.{◌≡◌, ◌⊎◌, ◌∙◌, ℕ, zero, suc, ◌<◌, ◌≤◌, inl, inr, List, [], ◌∷◌, ◌++◌, length, slice_index, map, Contains, refl, sym, ap, subst, arith}
use Rattle.std.proofs.lemmas.Bool.{cases_lt}
use Rattle.std.proofs.lemmas.List.{length-map, get_or-map}
use Rattle.std.proofs.lemmas.List.Elements.{Contains-append_left, Contains-append_right}
use Rattle.racp_model.specs.Plan.{IsLeast}
use Rattle.racp_model.proofs.lemmas.Relations.{member_cases, member_first, member_later, no_member}
use Rattle.racp_model.proofs.lemmas.Decided.{Decided, both_decided, decided_by, same_decided, le_decided, each_decided}

module _ {X : Type 0} (Before : X → X → Type 0) (P : X → Type 0) where
  -- x is in the list and has the property, and nothing in the list that has it stands before x
  pub record IsLeastIn (xs : List X) (x : X) : Type 0 where
    pub there : Contains xs x
    pub is : P x
    pub least : (y : X) → Contains xs y → P y → Before y x → ⊥

  -- nothing in the list has the property
  abbrev pub IsNoneIn : List X → Type 0
  IsNoneIn xs = (x : X) → Contains xs x → P x → ⊥

  -- one more thing that is least
  pub least_first : (y : X) (xs : List X) → P y → (Before y y → ⊥) → ((z : X) → Contains xs z → P z → Before z y → ⊥) → IsLeastIn (y ∷ xs) y
  least_first y xs is apart least = record {
    there = member_first y xs y refl;
    is = is;
    least = λ z c holds before. elim (member_cases y xs z c) [
      | inl same ↦ apart (subst (λ w. Before w y) (sym same) before)
      | inr later ↦ least z later holds before
    ];
  }

  -- or that is not
  pub least_later : (y x : X) (xs : List X) → (P y → Before y x → ⊥) → IsLeastIn xs x → IsLeastIn (y ∷ xs) x
  least_later y x xs not h = record {
    there = member_later y xs x h.there;
    is = h.is;
    least = λ z c holds before. elim (member_cases y xs z c) [
      | inl same ↦ not (subst P (sym same) holds) (subst (λ w. Before w x) (sym same) before)
      | inr later ↦ h.least z later holds before
    ];
  }

  pub none_later : (y : X) (xs : List X) → (P y → ⊥) → IsNoneIn xs → IsNoneIn (y ∷ xs)
  none_later y xs not none z c holds = elim (member_cases y xs z c) [
    | inl same ↦ not (subst P (sym same) holds)
    | inr later ↦ none z later holds
  ]

  -- where nothing stands before itself, what stands before what stands before does, and both are tested, there is a least or none
  module _ (trans : (x y z : X) → Before x y → Before y z → Before x z) (apart : (x : X) → Before x x → ⊥) (before : (x y : X) → Decided (Before x y)) (holds : (x : X) → Decided (P x)) where
    pub least_in : (xs : List X) → ((x : X) × IsLeastIn xs x) ⊎ IsNoneIn xs
    least_in [] = inr (λ x c is. no_member x c)
    least_in (y ∷ xs) = elim (holds y) [
      | inl is ↦ elim (least_in xs) [
        | inl some ↦ elim (before y some.0) [
          | inl first ↦ inl (y, least_first y xs is (apart y) (λ z c has less. some.1.least z c has (trans z y some.0 less first)))
          | inr not ↦ inl (some.0, least_later y some.0 xs (λ _ less. not less) some.1)
        ]
        | inr none ↦ inl (y, least_first y xs is (apart y) (λ z c has less. none z c has))
      ]
      | inr not ↦ elim (least_in xs) [
        | inl some ↦ inl (some.0, least_later y some.0 xs (λ has less. not has) some.1)
        | inr none ↦ inr (none_later y xs not none)
      ]
    ]

-- a vector with n places, with at most `most k` at place k
pub record IsUpTo (n : ℕ) (most : ℕ → ℕ) (vector : List ℕ) : Type 0 where
  pub places : length vector ≡ n
  pub below : (k : ℕ) → k < n → slice_index vector k ≤ most k

pub up_to_decided : (n : ℕ) (most : ℕ → ℕ) (vector : List ℕ) → Decided (IsUpTo n most vector)
up_to_decided n most vector =
    decided_by (λ both. record { places = both.0; below = both.1 }) (λ h. (h.places, h.below))
    (both_decided (same_decided (length vector) n) (each_decided (λ k. slice_index vector k ≤ most k) n (λ k l. le_decided (slice_index vector k) (most k))))

-- what a function of the members gives
pub member_mapped : {X Y : Type 0} (f : X → Y) (xs : List X) (x : X) → Contains xs x → Contains (map f xs) (f x)
member_mapped f xs x c = (c.0, rw (length-map xs f) c.1, get_or-map f xs c.0 x (f x) c.1 ∙ ap f c.2)

-- the vectors with a number below n in front of one of the list
pub headed : ℕ → List (List ℕ) → List (List ℕ)
headed zero tails = []
headed (suc n) tails = headed n tails ++ map (λ tail. n ∷ tail) tails

pub headed-has : (n head : ℕ) (tails : List (List ℕ)) (tail : List ℕ) → head < n → Contains tails tail → Contains (headed n tails) (head ∷ tail)
unfolding headed
headed-has zero head tails tail l c = absurd (omega (arith, l))
headed-has (suc n) head tails tail l c = elim (cases_lt head n) [
  | inl less ↦ Contains-append_left (headed n tails) (map (λ tail. n ∷ tail) tails) (head ∷ tail) (headed-has n head tails tail less c)
  | inr most ↦
      let same : n ≡ head = omega (arith, l, most) in
      subst (λ (h : ℕ). Contains (headed n tails ++ map (λ tail. n ∷ tail) tails) (h ∷ tail)) same
      (Contains-append_right (headed n tails) (map (λ tail. n ∷ tail) tails) (n ∷ tail) (member_mapped (λ (tail : List ℕ). n ∷ tail) tails tail c))
]

-- all vectors up to some bounds
pub vectors : ℕ → (ℕ → ℕ) → List (List ℕ)
vectors zero most = [] ∷ []
vectors (suc n) most = headed (suc (most 0)) (vectors n (λ k. most (suc k)))

pub vectors-has : (n : ℕ) (most : ℕ → ℕ) (vector : List ℕ) → IsUpTo n most vector → Contains (vectors n most) vector
unfolding vectors
vectors-has zero most [] h = (0, omega arith, refl)
vectors-has zero most (x ∷ tail) h = absurd (omega (arith, h.places))
vectors-has (suc n) most [] h = absurd (omega (arith, h.places))
vectors-has (suc n) most (x ∷ tail) h =
    headed-has (suc (most 0)) x (vectors n (λ k. most (suc k))) tail (omega (arith, h.below 0 (omega arith)))
    (vectors-has n (λ k. most (suc k)) tail (record { places = omega (arith, h.places); below = λ k l. h.below (suc k) (omega (arith, l)) }))

-- a vector up to some bounds that has a property
abbrev pub IsOneUpTo : ℕ → (ℕ → ℕ) → (List ℕ → Type 0) → List ℕ → Type 0
IsOneUpTo n most P vector = IsUpTo n most vector × P vector

-- of all such vectors there is a least, or there are none
pub least_up_to : (n : ℕ) (most : ℕ → ℕ) (Before : List ℕ → List ℕ → Type 0) (P : List ℕ → Type 0) → ((x y z : List ℕ) → Before x y → Before y z → Before x z) → ((x : List ℕ) → Before x x → ⊥) →
    ((x y : List ℕ) → Decided (Before x y)) → ((x : List ℕ) → Decided (P x)) → ((x : List ℕ) × IsLeast Before (IsOneUpTo n most P) x) ⊎ ((x : List ℕ) → IsOneUpTo n most P x → ⊥)
least_up_to n most Before P trans apart before holds =
    elim (least_in Before (IsOneUpTo n most P) trans apart before (λ x. both_decided (up_to_decided n most x) (holds x)) (vectors n most)) [
      | inl some ↦ inl (some.0, record { is = some.1.is; least = λ y one less. some.1.least y (vectors-has n most y one.0) one less })
      | inr none ↦ inr (λ x one. none x (vectors-has n most x one.0) one)
    ]
