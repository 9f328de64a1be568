-- Lines of a word and a number, and lines of resources or jobs, each with its number from one on, whatever their word.
use Rattle.std.proofs.Common.{◌≡◌, refl, sym, ◌∙◌, ap, ℕ, ◌+◌, ◌^◌, ◌<◌, List, [], ◌∷◌, ◌++◌, All, get_or, codes, append_assoc}
use Rattle.std.specs.Fmt.{decimal}
use Rattle.std.proofs.lemmas.List.{append_cancel_left}
use Rattle.std.proofs.lemmas.List.Elements.{All-head, All-tail}
use Rattle.racp_plan.specs.Texts.{line, capacity_line, capacity_lines, start_line, start_lines}
use Rattle.racp_plan.specs.PlanReading.{words_for}
use Rattle.racp_plan.specs.Steps.{number_line, number_lines}
use Rattle.racp_plan.proofs.lemmas.Numbers.{same_number, feed_is_no_digit}

-- the words of capacities and starts
abbrev pub capacity_word : List ℕ
capacity_word = codes "capacity "

abbrev pub start_word : List ℕ
start_word = codes "start "

start_line_is : (job start : ℕ) → start_line job start ≡ number_line (words_for start_word job) start
unfolding line start_line words_for
start_line_is job start = refl

capacity_line_is : (resource capacity : ℕ) → capacity_line resource capacity ≡ number_line (words_for capacity_word resource) capacity
unfolding line capacity_line words_for
capacity_line_is resource capacity = refl

pub start_lines_are : (job : ℕ) (starts : List ℕ) → start_lines job starts ≡ number_lines start_word job starts
start_lines_are job [] = refl
start_lines_are job (start ∷ starts) = λ i. start_line_is job start i ++ start_lines_are (job + 1) starts i

pub capacity_lines_are : (resource : ℕ) (capacities : List ℕ) → capacity_lines resource capacities ≡ number_lines capacity_word resource capacities
capacity_lines_are resource [] = refl
capacity_lines_are resource (capacity ∷ capacities) = λ i. capacity_line_is resource capacity i ++ capacity_lines_are (resource + 1) capacities i

-- a number of 64 bits
abbrev pub Fits64 : ℕ → Type 0
Fits64 n = n < 2 ^ 64

-- a line of words and a number, and what follows it
pub line_then : (words : List ℕ) (number : ℕ) (rest : List ℕ) → number_line words number ++ rest ≡ words ++ (decimal number ++ 10 ∷ rest)
unfolding line
line_then words number rest = append_assoc (words ++ decimal number) (10 ∷ []) rest ∙ append_assoc words (decimal number) (10 ∷ rest)

-- two lines with the same words tell their numbers
pub same_line : (words : List ℕ) (m n : ℕ) (s t : List ℕ) → Fits64 m → Fits64 n → number_line words m ++ s ≡ number_line words n ++ t → (m ≡ n) × (s ≡ t)
same_line words m n s t fits_m fits_n e =
    let from_number = append_cancel_left words (decimal m ++ 10 ∷ s) (decimal n ++ 10 ∷ t) (sym (line_then words m s) ∙ e ∙ line_then words n t) in
    same_number m n s t 10 fits_m fits_n feed_is_no_digit from_number

-- lines of resources or jobs begin with the first letter of their word
pub lines_first : (letter : ℕ) (word : List ℕ) (place number : ℕ) (numbers rest : List ℕ) → get_or (number_lines (letter ∷ word) place (number ∷ numbers) ++ rest) 0 0 ≡ letter
unfolding line words_for
lines_first letter word place number numbers rest = refl

-- lines of resources or jobs, up to another letter, tell their numbers
pub same_lines : (letter : ℕ) (word : List ℕ) (place : ℕ) (xs ys s t : List ℕ) → (get_or s 0 0 ≡ letter → ⊥) → (get_or t 0 0 ≡ letter → ⊥) → All Fits64 xs → All Fits64 ys →
    number_lines (letter ∷ word) place xs ++ s ≡ number_lines (letter ∷ word) place ys ++ t → (xs ≡ ys) × (s ≡ t)
same_lines letter word place [] [] s t other_s other_t fits_x fits_y e = (refl, e)
same_lines letter word place [] (y ∷ ys) s t other_s other_t fits_x fits_y e = absurd (other_s (ap (λ (text : List ℕ). get_or text 0 0) e ∙ lines_first letter word place y ys t))
same_lines letter word place (x ∷ xs) [] s t other_s other_t fits_x fits_y e = absurd (other_t (sym (ap (λ (text : List ℕ). get_or text 0 0) e) ∙ lines_first letter word place x xs s))
same_lines letter word place (x ∷ xs) (y ∷ ys) s t other_s other_t fits_x fits_y e =
    let words = words_for (letter ∷ word) place in
    let more_x : List ℕ = number_lines (letter ∷ word) (place + 1) xs in
    let more_y : List ℕ = number_lines (letter ∷ word) (place + 1) ys in
    let first = same_line words x y (more_x ++ s) (more_y ++ t) (All-head Fits64 x xs fits_x) (All-head Fits64 y ys fits_y) (sym (append_assoc (number_line words x) more_x s) ∙ e ∙ append_assoc (number_line words y) more_y t) in
    let others = same_lines letter word (place + 1) xs ys s t other_s other_t (All-tail Fits64 x xs fits_x) (All-tail Fits64 y ys fits_y) first.1 in
    (ap (λ (z : ℕ). z ∷ xs) first.0 ∙ ap (λ (zs : List ℕ). y ∷ zs) others.0, others.1)
