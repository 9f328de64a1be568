-- The lines of starts, before the last line of all, tell the starts.
use Rattle.std.proofs.Common.{◌≡◌, ℕ, List, ◌++◌, All, get_or, codes, refl, sym, ap, ◌∙◌, arith}
use Rattle.racp_plan.specs.Texts.{line, start_lines}
use Rattle.racp_plan.proofs.lemmas.Numbered.{Fits64, start_lines_are, same_lines}

-- the last line begins with an e
last_letter : get_or (line (codes "end")) 0 0 ≡ 101
unfolding line
last_letter = refl

pub same_starts : (xs ys : List ℕ) → All Fits64 xs → All Fits64 ys → start_lines 1 xs ++ line (codes "end") ≡ start_lines 1 ys ++ line (codes "end") → xs ≡ ys
same_starts xs ys fits_x fits_y e =
    let end : List ℕ = line (codes "end") in
    let other : get_or end 0 0 ≡ 115 → ⊥ = λ same. omega (arith, last_letter, same) in
    (same_lines 115 (codes "tart ") 1 xs ys end end other other fits_x fits_y
    (ap (λ (t : List ℕ). t ++ end) (sym (start_lines_are 1 xs)) ∙ e ∙ ap (λ (t : List ℕ). t ++ end) (start_lines_are 1 ys))).0
