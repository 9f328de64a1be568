-- The text of an answer tells which answer it is.
use Rattle.std.proofs.Common.{◌≡◌, ℕ, ◌-◌, ◌^◌, ◌<◌, List, [], ◌∷◌, ◌++◌, get_or, codes, refl, sym, ap, ◌∙◌, append_assoc, arith}
use Rattle.std.specs.Fmt.{decimal}
use Rattle.std.proofs.lemmas.List.{append_cancel_left}
use Rattle.std.specs.Char.{digit_value}
use Rattle.racp_text.specs.Faults.{fault_at}
use Rattle.racp_sm.specs.Faults.{fault_number, fault_name, SmFault}
use Rattle.racp_sm.specs.declared.fault.SmFaultKind.{SmFaultKind}
use Rattle.racp_sm.specs.declared.fault.SmFaultKind.TheVariants.{NoJobs, NoRenewable, ManyProjects, OtherResources, NoPrecedence, NoRequests, BadNumber, Limit, BadRow, NotSingleMode, BadSuccessor, TooFew, TooMany, Cycle, Memory}
use Rattle.racp_plan.specs.Texts.{line, critical_line, start_lines}
use Rattle.racp_plan.proofs.lemmas.Numbers.{same_number}
use Rattle.racp_plan.proofs.lemmas.StartLines.{same_starts}
use Rattle.racp_cli.specs.Texts.{early_text, refusal_line, memory_line}
use Rattle.racp_cli.specs.Answers.{CpmOutcome, Early, Refused, OutOfMemory, cpm_text}
use Rattle.racp_cli.specs.Laws.{IsWithin64Bits}

-- a line feed is no digit
feed_is_no_digit : digit_value 10 < 10 → ⊥
feed_is_no_digit h = omega arith

-- a blank is no digit
blank_is_no_digit : digit_value 32 < 10 → ⊥
blank_is_no_digit h = omega arith

-- texts that begin with different letters are different
apart : (s t : List ℕ) (m n : ℕ) → get_or s 0 0 ≡ m → get_or t 0 0 ≡ n → (m ≡ n → ⊥) → s ≡ t → ⊥
apart s t m n of_s of_t other e = other (sym of_s ∙ ap (λ (text : List ℕ). get_or text 0 0) e ∙ of_t)

-- the kinds, in the order of their numbers
kinds : List SmFaultKind
kinds = NoJobs ∷ (NoRenewable ∷ (ManyProjects ∷ (OtherResources ∷ (NoPrecedence ∷ (NoRequests ∷ (BadNumber ∷ (Limit ∷ (BadRow ∷ (NotSingleMode ∷ (BadSuccessor ∷ (TooFew ∷ (TooMany ∷ (Cycle ∷ (Memory ∷ []))))))))))))))

-- the kind that has this number
kind_of : ℕ → SmFaultKind
kind_of number = get_or kinds (number - 1) Memory

-- the number of a kind tells the kind
kind_of-number : (kind : SmFaultKind) → kind_of (fault_number kind) ≡ kind
unfolding kinds kind_of
kind_of-number NoJobs = refl
kind_of-number NoRenewable = refl
kind_of-number ManyProjects = refl
kind_of-number OtherResources = refl
kind_of-number NoPrecedence = refl
kind_of-number NoRequests = refl
kind_of-number BadNumber = refl
kind_of-number Limit = refl
kind_of-number BadRow = refl
kind_of-number NotSingleMode = refl
kind_of-number BadSuccessor = refl
kind_of-number TooFew = refl
kind_of-number TooMany = refl
kind_of-number Cycle = refl
kind_of-number Memory = refl

-- the number of a kind is small
number_fits : (kind : SmFaultKind) → fault_number kind < 2 ^ 64
number_fits NoJobs = omega arith
number_fits NoRenewable = omega arith
number_fits ManyProjects = omega arith
number_fits OtherResources = omega arith
number_fits NoPrecedence = omega arith
number_fits NoRequests = omega arith
number_fits BadNumber = omega arith
number_fits Limit = omega arith
number_fits BadRow = omega arith
number_fits NotSingleMode = omega arith
number_fits BadSuccessor = omega arith
number_fits TooFew = omega arith
number_fits TooMany = omega arith
number_fits Cycle = omega arith
number_fits Memory = omega arith

-- a refusal from its number on
refusal_line_is : (fault : SmFault) → refusal_line fault ≡ codes "refused sm " ++ (decimal (fault_number fault.kind) ++ 32 ∷ (fault_name fault.kind ++ (codes " line " ++ (decimal fault.line ++ 10 ∷ []))))
unfolding line refusal_line
refusal_line_is fault = simp append_assoc

-- the line of a refusal tells the fault
pub same_fault : (f g : SmFault) → f.line < 2 ^ 64 → g.line < 2 ^ 64 → refusal_line f ≡ refusal_line g → f ≡ g
same_fault f g fits_f fits_g e =
    let whole = append_cancel_left (codes "refused sm ") _ _ (sym (refusal_line_is f) ∙ e ∙ refusal_line_is g) in
    let number = same_number (fault_number f.kind) (fault_number g.kind) _ _ 32 (number_fits f.kind) (number_fits g.kind) blank_is_no_digit whole in
    let kind : f.kind ≡ g.kind = sym (kind_of-number f.kind) ∙ ap kind_of number.0 ∙ kind_of-number g.kind in
    let from_name = ap (λ (k : SmFaultKind). fault_name k ++ (codes " line " ++ (decimal f.line ++ 10 ∷ []))) (sym kind) ∙ number.1 in
    let from_line = append_cancel_left (codes " line ") _ _ (append_cancel_left (fault_name g.kind) _ _ from_name) in
    let line = same_number f.line g.line [] [] 10 fits_f fits_g feed_is_no_digit from_line in
    ap (λ (k : SmFaultKind). fault_at k f.line) kind ∙ ap (λ (n : ℕ). fault_at g.kind n) line.0

-- the text of early starts, from the critical length on
early_text_is : (critical : ℕ) (starts : List ℕ) → early_text critical starts ≡ codes "critical " ++ (decimal critical ++ 10 ∷ (start_lines 1 starts ++ line (codes "end")))
unfolding line critical_line early_text
early_text_is critical starts = simp append_assoc

-- the text of early starts tells the critical length and the starts
pub same_early : (c d : ℕ) (xs ys : List ℕ) → IsWithin64Bits (Early c xs) → IsWithin64Bits (Early d ys) → early_text c xs ≡ early_text d ys → Early c xs ≡ Early d ys
same_early c d xs ys p q e =
    let whole = append_cancel_left (codes "critical ") _ _ (sym (early_text_is c xs) ∙ e ∙ early_text_is d ys) in
    let critical = same_number c d _ _ 10 p.0 q.0 feed_is_no_digit whole in
    let starts = same_starts xs ys p.1 q.1 critical.1 in
    ap (λ (n : ℕ). Early n xs) critical.0 ∙ ap (λ (zs : List ℕ). Early d zs) starts

-- the letters with which the texts begin
early_first : (critical : ℕ) (starts : List ℕ) → get_or (early_text critical starts) 0 0 ≡ 99
unfolding line critical_line early_text
early_first critical starts = refl

refusal_first : (fault : SmFault) → get_or (refusal_line fault) 0 0 ≡ 114
unfolding line refusal_line
refusal_first fault = refl

memory_first : get_or memory_line 0 0 ≡ 109
unfolding line memory_line
memory_first = refl

-- the text of an answer tells which answer it is
pub same_answer : (a b : CpmOutcome) → IsWithin64Bits a → IsWithin64Bits b → cpm_text a ≡ cpm_text b → a ≡ b
same_answer (Early c xs) (Early d ys) p q e = same_early c d xs ys p q e
same_answer (Early c xs) (Refused g) p q e = absurd (apart _ _ 99 114 (early_first c xs) (refusal_first g) (omega arith) e)
same_answer (Early c xs) OutOfMemory p q e = absurd (apart _ _ 99 109 (early_first c xs) memory_first (omega arith) e)
same_answer (Refused f) (Early d ys) p q e = absurd (apart _ _ 114 99 (refusal_first f) (early_first d ys) (omega arith) e)
same_answer (Refused f) (Refused g) p q e = ap Refused (same_fault f g p q e)
same_answer (Refused f) OutOfMemory p q e = absurd (apart _ _ 114 109 (refusal_first f) memory_first (omega arith) e)
same_answer OutOfMemory (Early d ys) p q e = absurd (apart _ _ 109 99 memory_first (early_first d ys) (omega arith) e)
same_answer OutOfMemory (Refused g) p q e = absurd (apart _ _ 109 114 memory_first (refusal_first g) (omega arith) e)
same_answer OutOfMemory OutOfMemory p q e = refl
