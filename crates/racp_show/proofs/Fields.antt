-- Fields that are added one by one.
use Rattle.std.proofs.Common.{[], ◌∷◌, ◌≡◌, ◌∙◌, ℕ, List, ◌++◌, ap, append_assoc}

two : (old : List (List ℕ)) (a b : List ℕ) → (old ++ a ∷ []) ++ b ∷ [] ≡ old ++ (a ∷ (b ∷ []))
two old a b = simp append_assoc

pub in_two : (old : List (List ℕ)) (a b : List ℕ) {t1 t2 : List (List ℕ)} → t1 ≡ old ++ a ∷ [] → t2 ≡ t1 ++ b ∷ [] → t2 ≡ old ++ (a ∷ (b ∷ []))
in_two old a b p1 p2 = p2 ∙ ap (λ (t : List (List ℕ)). t ++ b ∷ []) p1 ∙ two old a b

three : (old : List (List ℕ)) (a b c : List ℕ) → (old ++ (a ∷ (b ∷ []))) ++ c ∷ [] ≡ old ++ (a ∷ (b ∷ (c ∷ [])))
three old a b c = simp append_assoc

pub in_three : (old : List (List ℕ)) (a b c : List ℕ) {t1 t2 t3 : List (List ℕ)} → t1 ≡ old ++ a ∷ [] → t2 ≡ t1 ++ b ∷ [] → t3 ≡ t2 ++ c ∷ [] → t3 ≡ old ++ (a ∷ (b ∷ (c ∷ [])))
in_three old a b c p1 p2 p3 = p3 ∙ ap (λ (t : List (List ℕ)). t ++ c ∷ []) (in_two old a b p1 p2) ∙ three old a b c
