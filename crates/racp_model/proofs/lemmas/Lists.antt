-- Places of a list after a write, rows of the values of a function, and facts for each place below a bound.
use Rattle.std.proofs.Common.{◌≡◌, ◌≢◌, ℕ, suc, ◌<◌, ◌⊎◌, inl, inr, List, length, slice_index, set, map, ◌++◌, ◌∷◌, [], ◌+◌, arith, ap, ◌∙◌, subst, sym, get_or-set_same, get_or-set_other}
use Rattle.std.specs.List.{range_with_len}
use Rattle.std.proofs.lemmas.Bool.{cases_lt}
use Rattle.std.proofs.lemmas.List.{get_or_append_left, get_or_push}
use Rattle.std.proofs.lemmas.List.FromFn.{length-map-range_with_len, get_or-map-range_with_len}

-- a place after a write: the new value, or the old one
pub at_set : (xs : List ℕ) (j v i : ℕ) → j < length xs → ((i ≡ j) × (slice_index (set xs j v) i ≡ v)) ⊎ ((i ≢ j) × (slice_index (set xs j v) i ≡ slice_index xs i))
at_set xs j v i l = elim (cases_lt i j) [
  | inl low ↦ let ne : i ≢ j = omega arith in inr (ne, get_or-set_other xs j i v 0 ne)
  | inr high ↦ elim (cases_lt j i) [
    | inl up ↦ let ne : i ≢ j = omega arith in inr (ne, get_or-set_other xs j i v 0 ne)
    | inr down ↦
        let e : i ≡ j = omega arith in
        inl (e, ap (slice_index (set xs j v)) e ∙ get_or-set_same xs j v 0 l)
  ]
]

-- what holds below n, and at n, holds below suc n
pub below_suc : (P : ℕ → Type 0) (n : ℕ) → ((i : ℕ) → i < n → P i) → P n → (i : ℕ) → i < suc n → P i
below_suc P n below here i l = elim (cases_lt i n) [
  | inl less ↦ below i less
  | inr most ↦ let e : n ≡ i = omega arith in subst P e here
]

-- the row of the first n values of a function
pub row : ℕ → (ℕ → ℕ) → List ℕ
row n f = map f (range_with_len 0 n)

pub row_places : (n : ℕ) (f : ℕ → ℕ) → length (row n f) ≡ n
unfolding row
row_places n f = length-map-range_with_len f 0 n

pub row-at : (n : ℕ) (f : ℕ → ℕ) (i : ℕ) → i < n → slice_index (row n f) i ≡ f i
unfolding row
row-at n f i l = get_or-map-range_with_len f 0 n i i 0 l (omega arith)

-- what holds of each place of a list, and of one more value, holds of each place of both
pub each-push : (P : ℕ → ℕ → Type 0) (xs ys : List ℕ) (x n : ℕ) → length xs ≡ n → ys ≡ xs ++ x ∷ [] → ((i : ℕ) → i < n → P i (slice_index xs i)) → P n x → (i : ℕ) → i < n + 1 → P i (slice_index ys i)
each-push P xs ys x n places is below here i l = rw is (elim (cases_lt i n) [
  | inl less ↦ subst (P i) (sym (get_or_append_left xs (x ∷ []) 0 i (omega arith))) (below i less)
  | inr most ↦
      let e : n ≡ i = omega arith in
      let Q : ℕ → Type 0 = λ j. P j (slice_index (xs ++ x ∷ []) j) in
      subst Q e (subst (P n) (sym (get_or_push xs x 0 n places)) here)
])
