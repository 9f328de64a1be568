-- Lines of resources or jobs, read one after another: those that are left.
use Rattle.std.proofs.Common.{◌≡◌, ◌∙◌, ap, ℕ, ◌+◌, ◌-◌, ◌<◌, ◌≤◌, List, [], ◌∷◌, Ok, Err}
use Rattle.std.specs.Prelude.{Result}
use Rattle.racp_model.specs.Steps.{◌>>=◌}
use Rattle.racp_text.proofs.lemmas.Rows.{with_front, bind-front, one_more, all_more, no_more}
use Rattle.racp_plan.specs.PlanReading.{most_number, words_for}
use Rattle.racp_plan.specs.Steps.{Rest, next_number, next_numbers}
use Rattle.racp_plan.specs.TextFaults.{TextFault}

-- what is left to read after so many of the lines
abbrev pub left_after : List ℕ → ℕ → ℕ → Rest → Result (List ℕ × Rest) TextFault
left_after word count place rest = next_numbers word (place + 1) (count - place) rest

pub lines_start : (word : List ℕ) (count : ℕ) (rest : Rest) → next_numbers word 1 count rest ≡ left_after word count 0 rest
lines_start word count rest = ap (λ n. next_numbers word 1 n rest) (all_more count)

one_line : (word : List ℕ) (count place : ℕ) (rest : Rest) → place < count →
    left_after word count place rest ≡ (next_number (words_for word (place + 1)) most_number rest >>= (λ first. next_numbers word ((place + 1) + 1) (count - (place + 1)) first.1 >>= (λ others. Ok (first.0 ∷ others.0, others.1))))
unfolding next_numbers
one_line word count place rest l = ap (λ n. next_numbers word (place + 1) n rest) (one_more count place l)

pub lines_step : (word : List ℕ) (count place number : ℕ) (now new : Rest) → place < count → next_number (words_for word (place + 1)) most_number now ≡ Ok (number, new) →
    left_after word count place now ≡ with_front (number ∷ []) (left_after word count (place + 1) new)
lines_step word count place number now new l e =
    one_line word count place now l ∙ (ap (λ r. r >>= (λ first. next_numbers word ((place + 1) + 1) (count - (place + 1)) first.1 >>= (λ others. Ok (first.0 ∷ others.0, others.1)))) e ∙ bind-front (number ∷ []) (left_after word count (place + 1) new))

pub lines_fault : (word : List ℕ) (count place : ℕ) (now : Rest) (fault : TextFault) → place < count → next_number (words_for word (place + 1)) most_number now ≡ Err fault → left_after word count place now ≡ Err fault
lines_fault word count place now fault l e =
    one_line word count place now l ∙ ap (λ r. r >>= (λ first. next_numbers word ((place + 1) + 1) (count - (place + 1)) first.1 >>= (λ others. Ok (first.0 ∷ others.0, others.1)))) e

pub lines_end : (word : List ℕ) (count place : ℕ) (now : Rest) → count ≤ place → left_after word count place now ≡ Ok ([], now)
unfolding next_numbers
lines_end word count place now l = ap (λ n. next_numbers word (place + 1) n now) (no_more count place l)
