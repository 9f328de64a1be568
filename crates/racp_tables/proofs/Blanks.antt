-- Cells that are looked at one after another.
use Rattle.std.proofs.Common.{◌≡◌, refl, sym, ◌∙◌, ap, ℕ, zero, suc, ◌+◌, ◌<◌, Bool, true, false, ◌&&◌, eqb, List, [], ◌∷◌, length, drop, arith}
use Rattle.std.specs.List.{list_all}
use Rattle.std.specs.Str.{trim}
use Rattle.csv.specs.Records.{field_at}
use Rattle.racp_tables.specs.Cells.{cell_at, is_blank_from}

-- the cell at a place, and those behind it
pub blank_step : (cells : List (List ℕ)) (place : ℕ) → place < length cells → is_blank_from place cells ≡ (eqb (length (cell_at cells place)) 0 && is_blank_from (place + 1) cells)
unfolding field_at
blank_step [] place within = absurd (omega (arith, within))
blank_step (x ∷ xs) zero within = refl
blank_step (x ∷ xs) (suc n) within =
    let next : suc n + 1 ≡ suc (n + 1) = omega arith in
    blank_step xs n (omega (arith, within))
    ∙ ap (λ (m : ℕ). eqb (length (cell_at xs n)) 0 && list_all (λ (cell : List ℕ). eqb (length (trim cell)) 0) (drop m (x ∷ xs))) (sym next)

-- a cell with text
pub text_ends : (cells : List (List ℕ)) (first place : ℕ) → place < length cells → is_blank_from place cells ≡ is_blank_from first cells →
    eqb (length (cell_at cells place)) 0 ≡ false → false ≡ is_blank_from first cells
text_ends cells first place within so_far some =
    sym (sym so_far ∙ blank_step cells place within ∙ ap (λ (b : Bool). b && is_blank_from (place + 1) cells) some)

-- a cell without
pub blank_goes : (cells : List (List ℕ)) (first place : ℕ) → place < length cells → is_blank_from place cells ≡ is_blank_from first cells →
    eqb (length (cell_at cells place)) 0 ≡ true → is_blank_from (place + 1) cells ≡ is_blank_from first cells
blank_goes cells first place within so_far none =
    sym (ap (λ (b : Bool). b && is_blank_from (place + 1) cells) none) ∙ sym (blank_step cells place within) ∙ so_far
