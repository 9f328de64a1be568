-- Lists of vectors that are distinct, and lists of the same vectors in another order.
use Rattle.std.proofs.Common.{◌≡◌, ◌≢◌, ◌⊎◌, ℕ, List, [], ◌∷◌, ◌++◌, inl, inr, refl, sym, Contains, AllPairs}
use Rattle.std.specs.List.Sorted.{IsPermutation}
use Rattle.std.specs.Bool.{one_answer}
use Rattle.std.specs.Str.{bytes_eq}
use Rattle.std.proofs.lemmas.Slice.Eq.{bytes_eq-Decides}
use Rattle.std.proofs.lemmas.Map.Keys.{IsDistinct-IsPermutation}
use Rattle.std.proofs.lemmas.Map.Made.{AllPairs-from_IsDistinct, IsDistinct-from_AllPairs}
use Rattle.std.proofs.lemmas.List.Sorted.{Contains-permutation, IsPermutation-sym}
use Rattle.std.proofs.lemmas.List.Elements.{Contains-append_left, Contains-append_right, Contains-append_cases}
use Rattle.std.proofs.lemmas.List.Kept.{AllPairs-cons}
use Rattle.racp_model.proofs.lemmas.Relations.{member_cases, member_later, member_first, member_after, rising_tail, all_members}

-- two vectors differ
abbrev pub Differ : List ℕ → List ℕ → Type 0
Differ a b = a ≢ b

pub eq_flips : (x y : List ℕ) → bytes_eq x y ≡ bytes_eq y x
eq_flips x y = one_answer (bytes_eq x y) (bytes_eq y x) (bytes_eq-Decides x y) (λ t. sym ((bytes_eq-Decides y x).0 t), λ e. (bytes_eq-Decides y x).1 (sym e))

-- distinct vectors are distinct in another order
pub distinct_moved : (xs ys : List (List ℕ)) → IsPermutation xs ys → AllPairs Differ xs → AllPairs Differ ys
distinct_moved xs ys moved h =
    AllPairs-from_IsDistinct bytes_eq-Decides ys (IsDistinct-IsPermutation bytes_eq eq_flips xs ys moved (IsDistinct-from_AllPairs bytes_eq-Decides xs h))

-- two lists of distinct vectors without a common one
pub distinct_joined : (xs ys : List (List ℕ)) → AllPairs Differ xs → AllPairs Differ ys → ((x y : List ℕ) → Contains xs x → Contains ys y → Differ x y) → AllPairs Differ (xs ++ ys)
distinct_joined [] ys hx hy apart = hy
distinct_joined (x ∷ xs) ys hx hy apart =
    let rest : AllPairs Differ (xs ++ ys) = distinct_joined xs ys (rising_tail Differ x xs hx) hy (λ a b c d. apart a b (member_later x xs a c) d) in
    AllPairs-cons Differ x (xs ++ ys) (all_members (Differ x) (xs ++ ys) (λ z c. other z (Contains-append_cases xs ys z c))) rest
  where
    other : (z : List ℕ) → Contains xs z ⊎ Contains ys z → Differ x z
    other z (inl c) = member_after Differ x xs z hx c
    other z (inr c) = apart x z (member_first x xs x refl) c

-- what became of two lists of distinct vectors when one vector was taken out
pub record IsTakenOut (old more : List (List ℕ)) (x : List ℕ) (new : List (List ℕ)) : Type 0 where
  pub once : AllPairs Differ new
  pub from : (z : List ℕ) → Contains new z → (Contains old z ⊎ Contains more z) × Differ x z
  pub kept : (z : List ℕ) → Contains old z → (x ≡ z) ⊎ Contains new z
  pub added : (z : List ℕ) → Contains more z → (x ≡ z) ⊎ Contains new z

pub taken_out : (old more : List (List ℕ)) (x : List ℕ) (new : List (List ℕ)) → IsPermutation (old ++ more) (x ∷ new) → AllPairs Differ (old ++ more) → IsTakenOut old more x new
taken_out old more x new moved h =
    let after : AllPairs Differ (x ∷ new) = distinct_moved (old ++ more) (x ∷ new) moved h in
    let back : IsPermutation (x ∷ new) (old ++ more) = IsPermutation-sym (old ++ more) (x ∷ new) moved in
    record {
      once = rising_tail Differ x new after;
      from = λ z c. (Contains-append_cases old more z (Contains-permutation (x ∷ new) (old ++ more) z back (member_later x new z c)), member_after Differ x new z after c);
      kept = λ z c. member_cases x new z (Contains-permutation (old ++ more) (x ∷ new) z moved (Contains-append_left old more z c));
      added = λ z c. member_cases x new z (Contains-permutation (old ++ more) (x ∷ new) z moved (Contains-append_right old more z c));
    }
