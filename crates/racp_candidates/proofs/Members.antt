-- The members of lists that are made by a function, and the tests that some or all members pass.
use Rattle.std.proofs.Common.{◌≡◌, ◌∙◌, Bool, true, false, ◌||◌, ◌&&◌, List, [], ◌∷◌, map, inl, inr, arith, refl, sym, ap, subst, Contains, AllPairs}
use Rattle.std.specs.List.{list_any, list_all}
use Rattle.std.proofs.lemmas.List.Kept.{AllPairs-cons}
use Rattle.racp_model.proofs.lemmas.Relations.{member_cases, member_later, member_first, no_member, member_after, rising_tail, all_members}

-- a list made by a function
module _ {X Y : Type 0} (f : X → Y) where
  pub map_from : (xs : List X) (y : Y) → Contains (map f xs) y → (x : X) × Contains xs x × (y ≡ f x)
  map_from [] y c = absurd (no_member y c)
  map_from (x ∷ xs) y c = elim (member_cases (f x) (map f xs) y c) [
    | inl same ↦ (x, member_first x xs x refl, sym same)
    | inr later ↦ let rest = map_from xs y later in (rest.0, member_later x xs rest.0 rest.1, rest.2)
  ]

  pub map_to : (xs : List X) (x : X) → Contains xs x → Contains (map f xs) (f x)
  map_to [] x c = absurd (no_member x c)
  map_to (z ∷ xs) x c = elim (member_cases z xs x c) [
    | inl same ↦ member_first (f z) (map f xs) (f x) (ap f same)
    | inr later ↦ member_later (f z) (map f xs) (f x) (map_to xs x later)
  ]

  -- what holds of each element and each later one holds of what they are made into
  pub map_pairs : (R : X → X → Type 0) (S : Y → Y → Type 0) → ((a b : X) → R a b → S (f a) (f b)) → (xs : List X) → AllPairs R xs → AllPairs S (map f xs)
  map_pairs R S into [] h = λ i j d less l. absurd (omega (arith, less, l))
  map_pairs R S into (x ∷ xs) h =
      let rest : AllPairs S (map f xs) = map_pairs R S into xs (rising_tail R x xs h) in
      AllPairs-cons S (f x) (map f xs) (all_members (S (f x)) (map f xs) (λ y c. after y (map_from xs y c))) rest
    where
      after : (y : Y) → (z : X) × Contains xs z × (y ≡ f z) → S (f x) y
      after y m = subst (S (f x)) (sym m.2) (into x m.0 (member_after R x xs m.0 h m.1))

-- a test that one of a list passes, and one that all pass
module _ {X : Type 0} (test : X → Bool) where
  -- one of a list passes
  pub any_from : (xs : List X) → list_any test xs ≡ true → (x : X) × Contains xs x × (test x ≡ true)
  any_from [] e = cc
  any_from (y ∷ ys) e = go (any_from ys) (test y) refl e
    where
      go : (list_any test ys ≡ true → (x : X) × Contains ys x × (test x ≡ true)) → (b : Bool) → test y ≡ b → (b || list_any test ys) ≡ true →
          (x : X) × Contains (y ∷ ys) x × (test x ≡ true)
      go more true here one = (y, member_first y ys y refl, here)
      go more false here one = let rest = more one in (rest.0, member_later y ys rest.0 rest.1, rest.2)

  pub any_to : (xs : List X) (x : X) → Contains xs x → test x ≡ true → list_any test xs ≡ true
  any_to [] x c passes = absurd (no_member x c)
  any_to (y ∷ ys) x c passes = elim (member_cases y ys x c) [
    | inl same ↦ first (ap test same ∙ passes)
    | inr later ↦ go (test y) (any_to ys x later passes)
  ]
    where
      first : test y ≡ true → list_any test (y ∷ ys) ≡ true
      first here = ap (λ (b : Bool). b || list_any test ys) here

      go : (b : Bool) → list_any test ys ≡ true → (b || list_any test ys) ≡ true
      go true later = refl
      go false later = later

  -- all of it pass
  pub both_true : (a b : Bool) → (a && b) ≡ true → (a ≡ true) × (b ≡ true)
  both_true true true e = (refl, refl)
  both_true true false e = cc
  both_true false b e = cc

  pub all_from : (xs : List X) → list_all test xs ≡ true → (x : X) → Contains xs x → test x ≡ true
  all_from [] e x c = absurd (no_member x c)
  all_from (y ∷ ys) e x c =
      let both = both_true (test y) (list_all test ys) e in
      elim (member_cases y ys x c) [
        | inl same ↦ ap test (sym same) ∙ both.0
        | inr later ↦ all_from ys both.1 x later
      ]

  pub all_to : (xs : List X) → ((x : X) → Contains xs x → test x ≡ true) → list_all test xs ≡ true
  all_to [] h = refl
  all_to (y ∷ ys) h =
      let rest : list_all test ys ≡ true = all_to ys (λ x c. h x (member_later y ys x c)) in
      let first : test y ≡ true = h y (member_first y ys y refl) in
      ap (λ (b : Bool). b && list_all test ys) first ∙ rest
