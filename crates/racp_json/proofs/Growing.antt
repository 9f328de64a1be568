-- Lists that grow by a line or a word.
use Rattle.std.proofs.Common.{◌≡◌, ◌∙◌, List, [], ◌∷◌, ◌++◌, flat_map, append-nil, append_assoc, ap, sym}

-- what comes of one thing more stands behind
pub one_more : {A B : Type 0} (f : A → List B) (xs : List A) (x : A) → flat_map f (xs ++ x ∷ []) ≡ flat_map f xs ++ f x
one_more f [] x = append-nil (f x)
one_more f (first ∷ xs) x = ap (λ rest. f first ++ rest) (one_more f xs x) ∙ sym (append_assoc (f first) (flat_map f xs) (f x))
