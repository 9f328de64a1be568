-- Rising lists of the same members are equal, so networks of the same resources, jobs and relation are.
use Rattle.std.proofs.Common.{◌≡◌, ◌⊎◌, ℕ, zero, suc, ◌<◌, List, [], ◌∷◌, length, slice_index_or, inl, inr, arith, refl, sym, ◌∙◌, subst, Contains, AllPairs, All}
use Rattle.std.proofs.lemmas.List.Elements.{All-weaker, All-contains_itself}
use Rattle.racp_model.specs.Project.{Project, IsArcBefore}
use Rattle.racp_model.specs.Made.{IsSameProject}
use Rattle.racp_model.specs.Laws.{RelationIsNetwork}

-- the members of a list
module _ {X : Type 0} where
  -- a member is the head or in the tail
  pub member_cases : (y : X) (ys : List X) (x : X) → Contains (y ∷ ys) x → (y ≡ x) ⊎ Contains ys x
  member_cases y ys x c = go c.0 c.1 c.2
    where
      go : (k : ℕ) → k < suc (length ys) → slice_index_or (y ∷ ys) k x ≡ x → (y ≡ x) ⊎ Contains ys x
      go zero l e = inl e
      go (suc k) l e = inr (k, omega arith, e)

  -- a member of the tail is a member
  pub member_later : (y : X) (ys : List X) (x : X) → Contains ys x → Contains (y ∷ ys) x
  member_later y ys x c = (suc c.0, omega (arith, c.1), c.2)

  -- the head is a member
  pub member_first : (y : X) (ys : List X) (x : X) → y ≡ x → Contains (y ∷ ys) x
  member_first y ys x e = (0, omega arith, e)

  -- nothing is in the empty list
  pub no_member : (x : X) → Contains [] x → ⊥
  no_member x c = omega (arith, c.1)

  -- what all members are
  pub all_members : (P : X → Type 0) (xs : List X) → ((x : X) → Contains xs x → P x) → All P xs
  all_members P xs h = All-weaker (Contains xs) P h xs (All-contains_itself xs)

-- the members of a rising list: each element stands before each later one
module _ {X : Type 0} (R : X → X → Type 0) where
  -- a member of the tail is after the head
  pub member_after : (y : X) (ys : List X) (x : X) → AllPairs R (y ∷ ys) → Contains ys x → R y x
  member_after y ys x rising c = subst (R y) c.2 (rising 0 (suc c.0) x (omega arith) (omega (arith, c.1)))

  -- the tail rises too
  pub rising_tail : (y : X) (ys : List X) → AllPairs R (y ∷ ys) → AllPairs R ys
  rising_tail y ys rising i j d less l = rising (suc i) (suc j) d (omega arith) (omega arith)

  module _ (apart : (a b : X) → R a b → R b a → ⊥) where
    -- two rising lists whose members are the same have the same head
    pub same_head : (x y : X) (xs ys : List X) → AllPairs R (x ∷ xs) → AllPairs R (y ∷ ys) → Contains (y ∷ ys) x → Contains (x ∷ xs) y → x ≡ y
    same_head x y xs ys a b there here = elim (member_cases y ys x there) [
      | inl same ↦ sym same
      | inr later ↦ elim (member_cases x xs y here) [
        | inl same ↦ same
        | inr earlier ↦ absurd (apart x y (member_after x xs y a earlier) (member_after y ys x b later))
      ]
    ]

    -- and where all members of the first are in the second, all of the first's tail are in the second's
    pub tail_within : (x y : X) (xs ys : List X) → x ≡ y → AllPairs R (x ∷ xs) → AllPairs R (y ∷ ys) →
        ((z : X) → Contains (x ∷ xs) z → Contains (y ∷ ys) z) → (z : X) → Contains xs z → Contains ys z
    tail_within x y xs ys e a b into z c = elim (member_cases y ys z (into z (member_later x xs z c))) [
      | inl same ↦
          let after : R x z = member_after x xs z a c in
          let self : R z z = subst (λ w. R w z) (e ∙ same) after in
          absurd (apart z z self self)
      | inr later ↦ later
    ]

    -- rising lists of the same members are equal
    pub same_from_members : (a b : List X) → AllPairs R a → AllPairs R b → ((z : X) → Contains a z → Contains b z) → ((z : X) → Contains b z → Contains a z) → a ≡ b
    same_from_members [] [] a b into back = refl
    same_from_members [] (y ∷ ys) a b into back = absurd (no_member y (back y (member_first y ys y refl)))
    same_from_members (x ∷ xs) [] a b into back = absurd (no_member x (into x (member_first x xs x refl)))
    same_from_members (x ∷ xs) (y ∷ ys) a b into back =
        let head : x ≡ y = same_head x y xs ys a b (into x (member_first x xs x refl)) (back y (member_first y ys y refl)) in
        let forth : (z : X) → Contains xs z → Contains ys z = tail_within x y xs ys head a b into in
        let home : (z : X) → Contains ys z → Contains xs z = tail_within y x ys xs (sym head) b a back in
        let tail : xs ≡ ys = same_from_members xs ys (rising_tail x xs a) (rising_tail y ys b) forth home in
        λ i. head i ∷ tail i

-- of two pairs, not each stands before the other
pub arcs_apart : (a b : ℕ × ℕ) → IsArcBefore a b → IsArcBefore b a → ⊥
arcs_apart a b h g = elim h [
  | inl less ↦ elim g [ inl more ↦ omega arith | inr same ↦ omega (arith, same.0) ]
  | inr tie ↦ elim g [ inl more ↦ omega (arith, tie.0) | inr same ↦ omega (arith, tie.1, same.1) ]
]

-- networks of the same resources, jobs and relation are equal
pub same_network : RelationIsNetwork
same_network p q ps qs same =
    let arcs : p.arcs ≡ q.arcs = same_from_members IsArcBefore arcs_apart p.arcs q.arcs ps.rising qs.rising (λ z. (same.arcs z).1) (λ z. (same.arcs z).0) in
    λ i. record { resources = sym same.resources i; jobs = sym same.jobs i; arcs = arcs i }

-- networks of one project are of the same project
pub composed : (given p q : Project) → IsSameProject given p → IsSameProject given q → IsSameProject p q
composed given p q hp hq = record {
  resources = hq.resources ∙ sym hp.resources;
  jobs = hq.jobs ∙ sym hp.jobs;
  arcs = λ arc. (λ c. (hp.arcs arc).1 ((hq.arcs arc).0 c), λ c. (hq.arcs arc).1 ((hp.arcs arc).0 c));
}
