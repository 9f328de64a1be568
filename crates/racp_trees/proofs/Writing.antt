-- The line of a vector, number by number.
use Rattle.std.proofs.Common.{◌≡◌, ◌∙◌, ℕ, ◌+◌, ◌<◌, ◌≤◌, List, [], ◌∷◌, ◌++◌, length, drop, get_or, refl, sym, ap, append_assoc, append-nil, add-one, drop-cons, codes}
use Rattle.std.specs.Fmt.{decimal}
use Rattle.std.proofs.lemmas.List.{drop_all}
use Rattle.racp_trees.specs.Texts.{numbers_text, vector_line}

next_number : (n : ℕ) (rest : List ℕ) → numbers_text (n ∷ rest) ≡ (codes " " ++ decimal n) ++ numbers_text rest
unfolding numbers_text
next_number n rest = refl

no_number : numbers_text [] ≡ []
unfolding numbers_text
no_number = refl

-- the number at a place is written
pub numbers_on : (numbers old text new : List ℕ) (place : ℕ) → place < length numbers → old ++ numbers_text (drop place numbers) ≡ text → new ≡ old ++ (codes " " ++ decimal (get_or numbers place 0))
    → new ++ numbers_text (drop (place + 1) numbers) ≡ text
numbers_on numbers old text new place within so_far grown =
    let next = get_or numbers place 0 in
    let rest : List ℕ = drop (place + 1) numbers in
    let split : drop place numbers ≡ next ∷ rest = rw (add-one) (drop-cons numbers place 0 within) in
    ap (λ (t : List ℕ). t ++ numbers_text rest) grown
    ∙ append_assoc old (codes " " ++ decimal next) (numbers_text rest)
    ∙ ap (λ (t : List ℕ). old ++ t) (sym (next_number next rest))
    ∙ sym (ap (λ (t : List ℕ). old ++ numbers_text t) split)
    ∙ so_far

-- all are written, and the line ends
pub vector_written : (numbers old text : List ℕ) (place : ℕ) → length numbers ≤ place → text ++ numbers_text (drop place numbers) ≡ (old ++ codes "vector") ++ numbers_text numbers → text ++ 10 ∷ [] ≡ old ++ vector_line numbers
unfolding vector_line
vector_written numbers old text place past so_far =
    let all : text ≡ (old ++ codes "vector") ++ numbers_text numbers =
    sym (append-nil text) ∙ ap (λ (t : List ℕ). text ++ t) (sym no_number) ∙ sym (ap (λ (rest : List ℕ). text ++ numbers_text rest) (drop_all place numbers past)) ∙ so_far in
    ap (λ (t : List ℕ). t ++ 10 ∷ []) all ∙ append_assoc (old ++ codes "vector") (numbers_text numbers) (10 ∷ []) ∙ append_assoc old (codes "vector") (numbers_text numbers ++ 10 ∷ [])
