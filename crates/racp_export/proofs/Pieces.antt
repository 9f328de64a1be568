-- Texts that are written piece by piece.
use Rattle.std.proofs.Common.{◌≡◌, ◌∙◌, ℕ, List, ◌++◌, ap, append_assoc}

two : (old a b : List ℕ) → (old ++ a) ++ b ≡ old ++ (a ++ b)
two old a b = simp append_assoc

pub in_two : (old a b : List ℕ) {t1 t2 : List ℕ} → t1 ≡ old ++ a → t2 ≡ t1 ++ b → t2 ≡ old ++ (a ++ b)
in_two old a b p1 p2 =
    p2 ∙ ap (λ (t : List ℕ). t ++ b) p1 ∙ two old a b

three : (old a b c : List ℕ) → ((old ++ a) ++ b) ++ c ≡ old ++ (a ++ (b ++ c))
three old a b c = simp append_assoc

pub in_three : (old a b c : List ℕ) {t1 t2 t3 : List ℕ} → t1 ≡ old ++ a → t2 ≡ t1 ++ b → t3 ≡ t2 ++ c → t3 ≡ old ++ (a ++ (b ++ c))
in_three old a b c p1 p2 p3 =
    p3 ∙ ap (λ (t : List ℕ). t ++ c) (p2 ∙ ap (λ (t : List ℕ). t ++ b) p1) ∙ three old a b c

four : (old a b c d : List ℕ) → (((old ++ a) ++ b) ++ c) ++ d ≡ old ++ (a ++ (b ++ (c ++ d)))
four old a b c d = simp append_assoc

pub in_four : (old a b c d : List ℕ) {t1 t2 t3 t4 : List ℕ} → t1 ≡ old ++ a → t2 ≡ t1 ++ b → t3 ≡ t2 ++ c → t4 ≡ t3 ++ d → t4 ≡ old ++ (a ++ (b ++ (c ++ d)))
in_four old a b c d p1 p2 p3 p4 =
    p4 ∙ ap (λ (t : List ℕ). t ++ d) (p3 ∙ ap (λ (t : List ℕ). t ++ c) (p2 ∙ ap (λ (t : List ℕ). t ++ b) p1)) ∙ four old a b c d

five : (old a b c d e : List ℕ) → ((((old ++ a) ++ b) ++ c) ++ d) ++ e ≡ old ++ (a ++ (b ++ (c ++ (d ++ e))))
five old a b c d e = simp append_assoc

pub in_five : (old a b c d e : List ℕ) {t1 t2 t3 t4 t5 : List ℕ} → t1 ≡ old ++ a → t2 ≡ t1 ++ b → t3 ≡ t2 ++ c → t4 ≡ t3 ++ d → t5 ≡ t4 ++ e → t5 ≡ old ++ (a ++ (b ++ (c ++ (d ++ e))))
in_five old a b c d e p1 p2 p3 p4 p5 =
    p5 ∙ ap (λ (t : List ℕ). t ++ e) (p4 ∙ ap (λ (t : List ℕ). t ++ d) (p3 ∙ ap (λ (t : List ℕ). t ++ c) (p2 ∙ ap (λ (t : List ℕ). t ++ b) p1))) ∙ five old a b c d e

six : (old a b c d e f : List ℕ) → (((((old ++ a) ++ b) ++ c) ++ d) ++ e) ++ f ≡ old ++ (a ++ (b ++ (c ++ (d ++ (e ++ f)))))
six old a b c d e f = simp append_assoc

pub in_six : (old a b c d e f : List ℕ) {t1 t2 t3 t4 t5 t6 : List ℕ} → t1 ≡ old ++ a → t2 ≡ t1 ++ b → t3 ≡ t2 ++ c → t4 ≡ t3 ++ d → t5 ≡ t4 ++ e → t6 ≡ t5 ++ f → t6 ≡ old ++ (a ++ (b ++ (c ++ (d ++ (e ++ f)))))
in_six old a b c d e f p1 p2 p3 p4 p5 p6 =
    p6 ∙ ap (λ (t : List ℕ). t ++ f) (p5 ∙ ap (λ (t : List ℕ). t ++ e) (p4 ∙ ap (λ (t : List ℕ). t ++ d) (p3 ∙ ap (λ (t : List ℕ). t ++ c) (p2 ∙ ap (λ (t : List ℕ). t ++ b) p1)))) ∙ six old a b c d e f
