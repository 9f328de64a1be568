-- Fields that are added one by one.
use Rattle.std.proofs.Common.{[], ◌∷◌, ◌≡◌, ◌∙◌, ℕ, List, ◌++◌, ap, append_assoc}

four : (old : List (List ℕ)) (a b c d : List ℕ) → (((old ++ a ∷ []) ++ b ∷ []) ++ c ∷ []) ++ d ∷ [] ≡ old ++ (a ∷ (b ∷ (c ∷ (d ∷ []))))
four old a b c d = simp append_assoc

pub in_four : (old : List (List ℕ)) (a b c d : List ℕ) {t1 t2 t3 t4 : List (List ℕ)} → t1 ≡ old ++ a ∷ [] → t2 ≡ t1 ++ b ∷ [] → t3 ≡ t2 ++ c ∷ [] → t4 ≡ t3 ++ d ∷ [] → t4 ≡ old ++ (a ∷ (b ∷ (c ∷ (d ∷ []))))
in_four old a b c d p1 p2 p3 p4 = p4 ∙ ap (λ (t : List (List ℕ)). t ++ d ∷ []) (p3 ∙ ap (λ (t : List (List ℕ)). t ++ c ∷ []) (p2 ∙ ap (λ (t : List (List ℕ)). t ++ b ∷ []) p1)) ∙ four old a b c d
