-- Lines in the pieces in which they are written, and lines one after the other.
use Rattle.std.proofs.Common.{◌≡◌, ℕ, ◌+◌, ◌<◌, List, [], ◌∷◌, ◌++◌, length, drop, get_or, sym, ap, ◌∙◌, append_assoc, add-one, drop-cons, codes}
use Rattle.std.specs.Fmt.{decimal}
use Rattle.racp_plan.specs.declared.plan.Plan.{Plan}
use Rattle.racp_plan.specs.Texts.{line, deadline_line, critical_line, cost_line, capacity_lines, start_lines, plan_text}
use Rattle.racp_plan.specs.PlanReading.{words_for}
use Rattle.racp_plan.specs.Steps.{number_line, number_lines}

-- the pieces of lines as they are written
pub number_line_pieces : (word : List ℕ) (owner number : ℕ) → word ++ (codes " " ++ (decimal owner ++ (codes " " ++ (decimal number ++ codes "\n")))) ≡ number_line (words_for (word ++ codes " ") owner) number
unfolding line words_for
number_line_pieces word owner number = simp append_assoc

-- three lines, each of a word and a number
three_lines : (a x b y c z feed : List ℕ) → a ++ (x ++ (feed ++ (b ++ (y ++ (feed ++ (c ++ (z ++ feed))))))) ≡ ((a ++ x) ++ feed) ++ ((b ++ y) ++ feed) ++ ((c ++ z) ++ feed)
three_lines a x b y c z feed = simp append_assoc

pub head_lines_pieces : (deadline critical cost : ℕ) →
    codes "deadline " ++ (decimal deadline ++ (codes "\ncritical " ++ (decimal critical ++ (codes "\ncost " ++ (decimal cost ++ codes "\n"))))) ≡ deadline_line deadline ++ critical_line critical ++ cost_line cost
unfolding line deadline_line critical_line cost_line
head_lines_pieces deadline critical cost = three_lines (codes "deadline ") (decimal deadline) (codes "critical ") (decimal critical) (codes "cost ") (decimal cost) (10 ∷ [])

pub plan_text_pieces : (plan : Plan) →
    (((deadline_line plan.deadline ++ critical_line plan.critical ++ cost_line plan.cost) ++ capacity_lines 1 plan.capacities) ++ start_lines 1 plan.starts) ++ codes "end\n" ≡ plan_text plan
unfolding line plan_text
plan_text_pieces plan = simp append_assoc

-- the line of the next resource or job is written
pub number_lines_on : (word numbers old text new : List ℕ) (place : ℕ) → place < length numbers → old ++ number_lines word (place + 1) (drop place numbers) ≡ text → new ≡ old ++ number_line (words_for word (place + 1)) (get_or numbers place 0)
    → new ++ number_lines word ((place + 1) + 1) (drop (place + 1) numbers) ≡ text
number_lines_on word numbers old text new place within so_far grown =
    let next = get_or numbers place 0 in
    let rest : List ℕ = drop (place + 1) numbers in
    let split : drop place numbers ≡ next ∷ rest = rw (add-one) (drop-cons numbers place 0 within) in
    ap (λ (t : List ℕ). t ++ number_lines word ((place + 1) + 1) rest) grown
    ∙ append_assoc old (number_line (words_for word (place + 1)) next) (number_lines word ((place + 1) + 1) rest)
    ∙ sym (ap (λ (t : List ℕ). old ++ number_lines word (place + 1) t) split)
    ∙ so_far
