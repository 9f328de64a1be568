-- What stands before the first `: ` of a line, and what stands behind it.
use Rattle.std.proofs.Common.{◌≡◌, ◌<◌, ◌≤◌, ◌∙◌, ◌==◌, ◌&&◌, ◌++◌, [], ◌∷◌, ℕ, suc, List, Option, Some, None, false, ap, arith, codes, length, option_map, refl, subst}
use Rattle.std.specs.Prelude.{MatchOption}
use Rattle.std.proofs.lemmas.Bool.{cond-false}
use Rattle.std.proofs.lemmas.Str.Pattern.{split_text_parts}
use Rattle.std.specs.Str.Pattern.{FindsText, LacksTextAt, SplitsAroundMatch}
use Rattle.racp_report.specs.Pages.{cells_of, change_cells, change_row, halves}
use denote.Ref.{Bor}

-- two bytes where no `: ` begins
not_here : (x y : ℕ) (rest : List ℕ) → LacksTextAt (58 ∷ (32 ∷ [])) (x ∷ (y ∷ rest)) 0 → (x == 58 && y == 32) ≡ false
not_here x y rest lacks = grind (arith, lacks rest)

none : (line : List ℕ) → ((i : ℕ) → i ≤ length line → LacksTextAt (58 ∷ (32 ∷ [])) line i) → halves line ≡ None
none [] lacks = refl
none (x ∷ []) lacks = refl
none (x ∷ (y ∷ rest)) lacks =
    cond-false _ _ _ (not_here x y rest (lacks 0 (omega arith)))
    ∙ ap (option_map (λ found. (x ∷ found.0, found.1))) (none (y ∷ rest) (λ i below. lacks (suc i) (omega (arith, below))))

some : (front back : List ℕ) → ((i : ℕ) → i < length front → LacksTextAt (58 ∷ (32 ∷ [])) (front ++ (58 ∷ (32 ∷ back))) i) →
    halves (front ++ (58 ∷ (32 ∷ back))) ≡ Some (front, back)
some [] back lacks = refl
some (x ∷ []) back lacks =
    cond-false _ _ _ (not_here x 58 (32 ∷ back) (lacks 0 (omega arith)))
    ∙ ap (option_map (λ found. (x ∷ found.0, found.1))) (some [] back (λ i below. lacks (suc i) (omega (arith, below))))
some (x ∷ (y ∷ front)) back lacks =
    cond-false _ _ _ (not_here x y (front ++ (58 ∷ (32 ∷ back))) (lacks 0 (omega arith)))
    ∙ ap (option_map (λ found. (x ∷ found.0, found.1))) (some (y ∷ front) back (λ i below. lacks (suc i) (omega (arith, below))))

-- what `split_once` answers
abbrev IsCut : List ℕ → Option (Bor (List ℕ) × Bor (List ℕ)) → Type 0
IsCut line r = MatchOption r (FindsText (codes ": ") line None) (λ x. SplitsAroundMatch (FindsText (codes ": ")) line x.0.now x.1.now)

pub row_is : (line : List ℕ) (r : Option (Bor (List ℕ) × Bor (List ℕ))) (x : Bor (List ℕ) × Bor (List ℕ)) → IsCut line r → r ≡ Some x →
    change_row line ≡ change_cells x.0.now x.1.now
row_is line r x cut is =
    let h : IsCut line (Some x) = subst (IsCut line) is cut in
    let whole : line ≡ x.0.now ++ (58 ∷ (32 ∷ x.1.now)) = split_text_parts (codes ": ") line (Some x) h in
    let lacks : (k : ℕ) → k < length x.0.now → LacksTextAt (58 ∷ (32 ∷ [])) (x.0.now ++ (58 ∷ (32 ∷ x.1.now))) k =
    λ k below. subst (λ (l : List ℕ). LacksTextAt (58 ∷ (32 ∷ [])) l k) whole (h.2.0 k (omega (arith, below, h.6))) in
    ap change_row whole ∙ ap cells_of (some x.0.now x.1.now lacks)

pub no_row : (line : List ℕ) (r : Option (Bor (List ℕ) × Bor (List ℕ))) → IsCut line r → r ≡ None → change_row line ≡ []
no_row line r cut is = ap cells_of (none line (subst (IsCut line) is cut))
