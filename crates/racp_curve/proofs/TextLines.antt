-- Lines in the pieces in which they are written, and lines one after the other.
use Rattle.std.proofs.Common.{◌≡◌, ◌∙◌, ℕ, ◌+◌, ◌<◌, ◌≤◌, List, [], ◌∷◌, ◌++◌, length, drop, get_or, sym, ap, append_assoc, append-nil, add-one, drop-cons, codes}
use Rattle.std.specs.Fmt.{decimal}
use Rattle.std.proofs.lemmas.List.{drop_all}
use Rattle.racp_plan.specs.Texts.{line}
use Rattle.racp_curve.specs.declared.step.Step.{Step}
use Rattle.racp_curve.specs.Texts.{spaced, step_line, step_lines, curve_text}

-- the pieces of a line
pub step_line_pieces : (step : Step) (old : List ℕ) →
    ((old ++ (codes "deadline " ++ (decimal step.deadline ++ (codes " cost " ++ (decimal step.cost ++ codes " capacity"))))) ++ spaced step.capacities) ++ 10 ∷ [] ≡ old ++ step_line step
unfolding line step_line
step_line_pieces step old = simp append_assoc

-- the next number is written
pub spaced_on : (numbers old text new : List ℕ) (place : ℕ) → place < length numbers → old ++ spaced (drop place numbers) ≡ text → new ≡ old ++ (codes " " ++ decimal (get_or numbers place 0)) → new ++ spaced (drop (place + 1) numbers) ≡ text
spaced_on numbers old text new place within so_far grown =
    let next = get_or numbers place 0 in
    let rest : List ℕ = drop (place + 1) numbers in
    let split : drop place numbers ≡ next ∷ rest = rw (add-one) (drop-cons numbers place 0 within) in
    ap (λ (t : List ℕ). t ++ spaced rest) grown
    ∙ append_assoc old (codes " " ++ decimal next) (spaced rest)
    ∙ sym (ap (λ (t : List ℕ). old ++ spaced t) split)
    ∙ so_far

-- all lines are written, and the last one
pub lines_all : (steps : List Step) (text all : List ℕ) (place : ℕ) → length steps ≤ place → text ++ step_lines (drop place steps) ≡ all → text ≡ all
lines_all steps text all place past so_far =
    sym (append-nil text) ∙ sym (ap (λ (rest : List Step). text ++ step_lines rest) (drop_all place steps past)) ∙ so_far

pub curve_text_pieces : (steps : List Step) (text : List ℕ) → text ≡ step_lines steps → text ++ codes "end\n" ≡ curve_text steps
unfolding line curve_text
curve_text_pieces steps text e = ap (λ (t : List ℕ). t ++ codes "end\n") e
