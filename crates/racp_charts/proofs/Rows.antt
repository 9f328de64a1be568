-- Lists that are made place by place.
use Rattle.std.proofs.Common.{◌≡◌, ℕ, ◌+◌, ◌<◌, ◌++◌, ◌∷◌, [], List, length, slice_index_or, inl, inr, arith, subst, sym, length-append, ap, ◌∙◌}
use Rattle.std.proofs.lemmas.Bool.{cases_lt}
use Rattle.std.proofs.lemmas.List.{get_or_append_left, get_or_push}

-- what holds of each place of a list, and of one more value, holds of each place of both
pub each_push : {A : Type 0} (P : ℕ → A → Type 0) (xs ys : List A) (x : A) (n : ℕ) → length xs ≡ n → ys ≡ xs ++ x ∷ [] → ((i : ℕ) (d : A) → i < n → P i (slice_index_or xs i d)) → P n x → (i : ℕ) (d : A) → i < n + 1 → P i (slice_index_or ys i d)
each_push {A} P xs ys x n places is below here i d l =
    let Q : List A → Type 0 = λ zs. P i (slice_index_or zs i d) in
    subst Q (sym is) (elim (cases_lt i n) [
      | inl less ↦ subst (P i) (sym (get_or_append_left xs (x ∷ []) d i (omega (arith, less, places)))) (below i d less)
      | inr most ↦
          let e : n ≡ i = omega (arith, most, l) in
          let R : ℕ → Type 0 = λ j. P j (slice_index_or (xs ++ x ∷ []) j d) in
          subst R e (subst (P n) (sym (get_or_push xs x d n places)) here)
    ])

-- and there is one place more
pub places_push : {A : Type 0} (xs ys : List A) (x : A) (n : ℕ) → length xs ≡ n → ys ≡ xs ++ x ∷ [] → length ys ≡ n + 1
places_push xs ys x n places is = ap length is ∙ (length-append xs (x ∷ []) ∙ ap (λ n. n + 1) places)
