-- The members of lists of what passes a test, and of rising numbers.
use Rattle.std.proofs.Common.{◌≡◌, ◌∙◌, ℕ, zero, suc, ◌+◌, ◌<◌, ◌≤◌, Bool, true, false, cond, List, [], ◌∷◌, inl, inr, arith, refl, sym, ap, Contains}
use Rattle.std.specs.List.{filter, range_with_len}
use Rattle.std.proofs.lemmas.Bool.{cases_lt}
use Rattle.racp_model.proofs.lemmas.Relations.{member_cases, member_later, member_first, no_member}

-- a list of what passes a test
module _ {X : Type 0} (test : X → Bool) where
  pub filter_from : (xs : List X) (x : X) → Contains (filter test xs) x → Contains xs x × (test x ≡ true)
  filter_from [] x c = absurd (no_member x c)
  filter_from (y ∷ ys) x c = go (filter_from ys x) (test y) refl c
    where
      go : (Contains (filter test ys) x → Contains ys x × (test x ≡ true)) → (b : Bool) → test y ≡ b → Contains (cond b (y ∷ filter test ys) (filter test ys)) x → Contains (y ∷ ys) x × (test x ≡ true)
      go more true e m = elim (member_cases y (filter test ys) x m) [
        | inl same ↦ (member_first y ys x same, ap test (sym same) ∙ e)
        | inr later ↦ let rest = more later in (member_later y ys x rest.0, rest.1)
      ]
      go more false e m = let rest = more m in (member_later y ys x rest.0, rest.1)

  pub filter_to : (xs : List X) (x : X) → Contains xs x → test x ≡ true → Contains (filter test xs) x
  filter_to [] x c passes = absurd (no_member x c)
  filter_to (y ∷ ys) x c passes = go (λ later. filter_to ys x later passes) (test y) refl
    where
      go : (Contains ys x → Contains (filter test ys) x) → (b : Bool) → test y ≡ b → Contains (cond b (y ∷ filter test ys) (filter test ys)) x
      go more true e = elim (member_cases y ys x c) [
        | inl same ↦ member_first y (filter test ys) x same
        | inr later ↦ member_later y (filter test ys) x (more later)
      ]
      go more false e = elim (member_cases y ys x c) [
        | inl same ↦ let clash : false ≡ true = sym e ∙ (ap test same ∙ passes) in cc
        | inr later ↦ more later
      ]

-- rising numbers
pub range_from : (a n x : ℕ) → Contains (range_with_len a n) x → (a ≤ x) × (x < a + n)
range_from a zero x c = absurd (no_member x c)
range_from a (suc n) x c = elim (member_cases a (range_with_len (a + 1) n) x c) [
  | inl same ↦ (omega (arith, same), omega (arith, same))
  | inr later ↦ let rest = range_from (a + 1) n x later in (omega (arith, rest.0), omega (arith, rest.1))
]

pub range_to : (a n x : ℕ) → a ≤ x → x < a + n → Contains (range_with_len a n) x
range_to a zero x low high = absurd (omega (arith, low, high))
range_to a (suc n) x low high = elim (cases_lt a x) [
  | inl less ↦ member_later a (range_with_len (a + 1) n) x (range_to (a + 1) n x (omega (arith, less)) (omega (arith, high)))
  | inr most ↦ let same : a ≡ x = omega (arith, most, low) in member_first a (range_with_len (a + 1) n) x same
]
