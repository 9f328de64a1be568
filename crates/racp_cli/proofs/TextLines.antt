-- Lines in the pieces in which they are written.
use Rattle.std.proofs.Common.{◌≡◌, ◌∙◌, ℕ, ◌+◌, ◌<◌, ◌≤◌, List, [], ◌∷◌, ◌++◌, length, drop, get_or, sym, ap, append_assoc, append-nil, add-one, drop-cons, codes}
use Rattle.std.specs.Fmt.{decimal}
use Rattle.std.proofs.lemmas.List.{drop_all}
use Rattle.racp_sm.specs.Faults.{fault_number, fault_name, SmFault}
use Rattle.racp_prices.specs.Faults.{fault_number as order_fault_number, fault_name as order_fault_name}
use Rattle.racp_prices.specs.declared.fault.OrderFault.{OrderFault}
use Rattle.racp_plan.specs.Texts.{line, critical_line, start_lines}
use Rattle.racp_plan.specs.TextFaults.{fault_number as text_fault_number, fault_name as text_fault_name, TextFault}
use Rattle.racp_cli.specs.Texts.{early_text, at_least_line, refusal_line, order_refusal_line, plan_refusal_line, stopped_line}
use Rattle.racp_curve.specs.Texts.{spaced}

-- the pieces of a refusal, and those of the text of early starts
pub refusal_line_pieces : (fault : SmFault) → codes "refused sm " ++ (decimal (fault_number fault.kind) ++ (codes " " ++ (fault_name fault.kind ++ (codes " line " ++ (decimal fault.line ++ codes "\n"))))) ≡ refusal_line fault
unfolding line refusal_line
refusal_line_pieces fault = simp append_assoc

pub early_text_pieces : (critical : ℕ) (starts : List ℕ) → ((codes "critical " ++ (decimal critical ++ codes "\n")) ++ start_lines 1 starts) ++ codes "end\n" ≡ early_text critical starts
unfolding line critical_line early_text
early_text_pieces critical starts = simp append_assoc

pub order_refusal_line_pieces : (fault : OrderFault) → codes "refused order " ++ (decimal (order_fault_number fault) ++ (codes " " ++ (order_fault_name fault ++ codes "\n"))) ≡ order_refusal_line fault
unfolding line order_refusal_line
order_refusal_line_pieces fault = simp append_assoc

pub plan_refusal_line_pieces : (fault : TextFault) → codes "refused plan " ++ (decimal (text_fault_number fault.kind) ++ (codes " " ++ (text_fault_name fault.kind ++ (codes " line " ++ (decimal fault.line ++ codes "\n"))))) ≡ plan_refusal_line fault
unfolding line plan_refusal_line
plan_refusal_line_pieces fault = simp append_assoc

-- a bound
pub at_least_line_pieces : (least : ℕ) → codes "at least " ++ (decimal least ++ codes "\n") ≡ at_least_line least
unfolding line at_least_line
at_least_line_pieces least = simp append_assoc

-- some words and a number, and some words and two numbers
pub numbered_line_pieces : (words : List ℕ) (number : ℕ) → words ++ (codes " " ++ (decimal number ++ codes "\n")) ≡ line (words ++ codes " " ++ decimal number)
unfolding line
numbered_line_pieces words number = simp append_assoc

pub doubly_numbered_line_pieces : (words : List ℕ) (first second : ℕ) →
    words ++ (codes " " ++ (decimal first ++ (codes " " ++ (decimal second ++ codes "\n")))) ≡ line (words ++ codes " " ++ decimal first ++ codes " " ++ decimal second)
unfolding line
doubly_numbered_line_pieces words first second = simp append_assoc

-- the number of the next resource is written
pub spaced_on : (numbers old text new : List ℕ) (place : ℕ) → place < length numbers → old ++ spaced (drop place numbers) ≡ text → new ≡ old ++ (codes " " ++ decimal (get_or numbers place 0))
    → new ++ spaced (drop (place + 1) numbers) ≡ text
spaced_on numbers old text new place within so_far grown =
    let next = get_or numbers place 0 in
    let rest : List ℕ = drop (place + 1) numbers in
    let split : drop place numbers ≡ next ∷ rest = rw (add-one) (drop-cons numbers place 0 within) in
    ap (λ (t : List ℕ). t ++ spaced rest) grown
    ∙ append_assoc old (codes " " ++ decimal next) (spaced rest)
    ∙ sym (ap (λ (t : List ℕ). old ++ spaced t) split)
    ∙ so_far

-- all numbers are written, and the line ends
pub stopped_line_pieces : (capacities text : List ℕ) → text ≡ codes "stopped" ++ spaced capacities → text ++ 10 ∷ [] ≡ stopped_line capacities
unfolding line stopped_line
stopped_line_pieces capacities text e = ap (λ (t : List ℕ). t ++ 10 ∷ []) e

-- the numbers of all resources are written
pub spaced_all : (numbers text all : List ℕ) (place : ℕ) → length numbers ≤ place → text ++ spaced (drop place numbers) ≡ all → text ≡ all
spaced_all numbers text all place past so_far =
    sym (append-nil text) ∙ sym (ap (λ (rest : List ℕ). text ++ spaced rest) (drop_all place numbers past)) ∙ so_far
