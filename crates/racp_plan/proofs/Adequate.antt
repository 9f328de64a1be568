-- Reading stops exactly at the first fault, and what is read is one thing.
use Rattle.std.proofs.Common.{◌≡◌, refl, sym, ◌∙◌, ap, subst, ℕ, zero, suc, ◌+◌, ◌^◌, ◌<◌, ◌≤◌, inl, inr, List, [], ◌∷◌, ◌++◌, length, drop, arith, codes, Ok, Err, length-append}
use Rattle.std.specs.Prelude.{Result, ◌≢◌}
use Rattle.racp_model.specs.Project.{Project, IsWithinLimits}
use Rattle.racp_plan.specs.TextFaults.{TextFault}
use Rattle.racp_plan.specs.declared.text_fault.TextFaultKind.TheVariants.{Memory}
use Rattle.racp_plan.specs.declared.plan.Plan.{Plan}
use Rattle.racp_plan.specs.Texts.{plan_text}
use Rattle.racp_text.specs.Faults.{fault_at}
use Rattle.racp_plan.specs.PlanReading.{IsPlanReading, IsPlanReadingOrMemory, IsReadable, Form, forms, forms_for, IsWrong, IsFirstFault, words_for, most_number, most_cost}
use Rattle.racp_model.specs.Steps.{◌>>=◌}
use Rattle.racp_model.proofs.lemmas.Results.{IsFault}
use Rattle.racp_plan.specs.Steps.{GivesOrMemory, Rest, next_number, next_numbers, last_line, reading}
use Rattle.racp_plan.proofs.Written.{rest_at, own_words, written_read, read_written}
use Rattle.racp_plan.proofs.FirstFaults.{IsOneLine, line_right, right_line, fault_wrong, wrong_fault, end_fault, end_wrong}

-- whether all lines are right, or the first fault
abbrev pub all_read : List Form → Rest → Result (Unit {0}) TextFault
all_read [] rest = last_line rest
all_read (form ∷ forms) rest = next_number form.words form.most rest >>= (λ first. all_read forms first.1)

-- the words of forms have no line feed, and their greatest numbers fit 64 bits
abbrev pub AreFit : List Form → Type 0
AreFit [] = Unit {0}
AreFit (form ∷ forms) = IsOneLine form.words × (form.most < 2 ^ 64) × AreFit forms

err_or : {A : Type 0} → TextFault → Result A TextFault → TextFault
err_or other (Ok x) = other
err_or other (Err fault) = fault

same_err : {A : Type 0} (f g : TextFault) → let one : Result A TextFault = Err f in one ≡ Err g → f ≡ g
unfolding err_or
same_err f g e = ap (err_or f) e

-- where reading stops, there is the first fault
stops_at_first : (forms : List Form) (n : ℕ) (text : List ℕ) (fault : TextFault) → AreFit forms → all_read forms (rest_at n text) ≡ Err fault → IsFirstFault forms n text fault
stops_at_first [] n text fault fit e = end_fault n text fault e
stops_at_first (form ∷ forms) n text fault fit e = by_first (λ rest later. stops_at_first forms (n + 1) rest fault fit.2 later) (next_number form.words form.most (rest_at n text)) refl
  where
    by_first : ((rest : List ℕ) → all_read forms (rest_at (n + 1) rest) ≡ Err fault → IsFirstFault forms (n + 1) rest fault) → (r : Result (ℕ × Rest) TextFault) → next_number form.words form.most (rest_at n text) ≡ r → IsFirstFault (form ∷ forms) n text fault
    by_first later (Ok x) first =
        let right = right_line form.words form.most n text x fit.1 first in
        let next = line_right form.words form.most n x.0 text x.1.bytes fit.0 right.0 right.1 in
        let rest : all_read forms (rest_at (n + 1) x.1.bytes) ≡ Err fault = sym (ap (λ r. r >>= (λ first. all_read forms first.1)) next) ∙ e in
        inr (x.0, x.1.bytes, right.0, right.1, later x.1.bytes rest)
    by_first later (Err found) first =
        let same : found ≡ fault = same_err found fault (sym (ap (λ r. r >>= (λ first. all_read forms first.1)) first) ∙ e) in
        inl (fault_wrong form n text fault fit.0 (first ∙ ap Err same))

-- and at the first fault reading stops
first_stops : (forms : List Form) (n : ℕ) (text : List ℕ) (fault : TextFault) → AreFit forms → IsFirstFault forms n text fault → all_read forms (rest_at n text) ≡ Err fault
first_stops [] n text fault fit h = end_wrong n text fault h
first_stops (form ∷ forms) n text fault fit (inl here) =
    let wrong = wrong_fault form n text fault.kind fit.1 fit.0 here.1 in
    ap (λ r. r >>= (λ first. all_read forms first.1)) wrong ∙ (λ i. Err (fault_at fault.kind (sym here.0 i)))
first_stops (form ∷ forms) n text fault fit (inr later) =
    let next = line_right form.words form.most n later.0 text later.1 fit.0 later.2 later.3 in
    ap (λ r. r >>= (λ first. all_read forms first.1)) next ∙ first_stops forms (n + 1) later.1 fault fit.2 later.4

-- the forms of a plan's lines are fit
forms_for_fit : (word : List ℕ) (place count : ℕ) (tail : List Form) → IsOneLine word → place + count < 2 ^ 64 → AreFit tail → AreFit (forms_for word place count ++ tail)
forms_for_fit word place zero tail one fits fit = fit
forms_for_fit word place (suc count) tail one fits fit =
    (own_words word place (omega arith) one, omega arith, forms_for_fit word (place + 1) count tail one (omega (arith, fits)) fit)

append_no_forms : (forms : List Form) → forms ++ [] ≡ forms
append_no_forms [] = refl
append_no_forms (form ∷ forms) = ap (λ (more : List Form). form ∷ more) (append_no_forms forms)

forms_fit : (resources jobs : ℕ) → resources < 2 ^ 32 → jobs < 2 ^ 32 → AreFit (forms resources jobs)
forms_fit resources jobs some_resources some_jobs =
    let starts : AreFit (forms_for (codes "start ") 1 jobs) = subst AreFit (append_no_forms (forms_for (codes "start ") 1 jobs)) (forms_for_fit (codes "start ") 1 jobs [] refl (omega arith) tt) in
    (refl, omega arith, (refl, omega arith, (refl, omega arith, forms_for_fit (codes "capacity ") 1 resources (forms_for (codes "start ") 1 jobs) refl (omega arith) starts)))

-- what was read is not looked at
abbrev pub forget : {A : Type 0} → Result A TextFault → Result (Unit {0}) TextFault
forget (Ok x) = Ok tt
forget (Err fault) = Err fault

forget-bind : {A B : Type 0} (r : Result A TextFault) (next : A → Result B TextFault) (then : A → Result (Unit {0}) TextFault) → ((x : A) → forget (next x) ≡ then x) → forget (r >>= next) ≡ (r >>= then)
forget-bind (Ok x) next then same = same x
forget-bind (Err fault) next then same = refl

forget-done : {B : Type 0} (r : Result (Unit {0}) TextFault) (y : B) → forget (r >>= (λ end. Ok y)) ≡ r
forget-done (Ok x) y = refl
forget-done (Err fault) y = refl

bind_bind : {A B C : Type 0} (r : Result A TextFault) (f : A → Result B TextFault) (g : B → Result C TextFault) → ((r >>= f) >>= g) ≡ (r >>= (λ x. f x >>= g))
bind_bind (Ok x) f g = refl
bind_bind (Err fault) f g = refl

numbers-forget : {B : Type 0} (word : List ℕ) (place count : ℕ) (rest : Rest) (next : List ℕ × Rest → Result B TextFault) (tail : List Form) → ((numbers : List ℕ) (rest : Rest) → forget (next (numbers, rest)) ≡ all_read tail rest) →
    forget (next_numbers word place count rest >>= next) ≡ all_read (forms_for word place count ++ tail) rest
unfolding next_numbers
numbers-forget word place zero rest next tail same = same [] rest
numbers-forget word place (suc count) rest next tail same =
    let first = next_number (words_for word place) most_number rest in
    let others = λ (x : ℕ × Rest). next_numbers word (place + 1) count x.1 >>= (λ others. Ok (x.0 ∷ others.0, others.1)) in
    ap forget (bind_bind first others next)
    ∙ forget-bind first (λ x. others x >>= next) (λ x. all_read (forms_for word (place + 1) count ++ tail) x.1)
    (λ x. ap forget (bind_bind (next_numbers word (place + 1) count x.1) (λ others. Ok (x.0 ∷ others.0, others.1)) next)
    ∙ numbers-forget word (place + 1) count x.1 (λ others. next (x.0 ∷ others.0, others.1)) tail (λ numbers rest. same (x.0 ∷ numbers) rest))

-- reading a plan from each of its lines on
abbrev pub from_starts : ℕ → ℕ → ℕ → List ℕ → List ℕ × Rest → Result Plan TextFault
from_starts deadline critical cost capacities starts =
    last_line starts.1 >>= (λ end. Ok (record { deadline = deadline; critical = critical; cost = cost; capacities = capacities; starts = starts.0 }))

abbrev pub from_capacities : ℕ → ℕ → ℕ → ℕ → List ℕ × Rest → Result Plan TextFault
from_capacities jobs deadline critical cost capacities = next_numbers (codes "start ") 1 jobs capacities.1 >>= from_starts deadline critical cost capacities.0

abbrev pub from_cost : ℕ → ℕ → ℕ → ℕ → ℕ × Rest → Result Plan TextFault
from_cost resources jobs deadline critical cost = next_numbers (codes "capacity ") 1 resources cost.1 >>= from_capacities jobs deadline critical cost.0

abbrev pub from_critical : ℕ → ℕ → ℕ → ℕ × Rest → Result Plan TextFault
from_critical resources jobs deadline critical = next_number (codes "cost ") most_cost critical.1 >>= from_cost resources jobs deadline critical.0

abbrev pub from_deadline : ℕ → ℕ → ℕ × Rest → Result Plan TextFault
from_deadline resources jobs deadline = next_number (codes "critical ") most_number deadline.1 >>= from_critical resources jobs deadline.0

-- reading a plan stops where its lines do
starts-forget : (jobs deadline critical cost : ℕ) (capacities : List ℕ) (rest : Rest) → forget (from_capacities jobs deadline critical cost (capacities, rest)) ≡ all_read (forms_for (codes "start ") 1 jobs) rest
starts-forget jobs deadline critical cost capacities rest =
    numbers-forget (codes "start ") 1 jobs rest (from_starts deadline critical cost capacities) [] (λ (starts : List ℕ) (after : Rest). forget-done (last_line after) (record { deadline = deadline; critical = critical; cost = cost; capacities = capacities; starts = starts }))
    ∙ ap (λ (fs : List Form). all_read fs rest) (append_no_forms (forms_for (codes "start ") 1 jobs))

capacities-forget : (resources jobs deadline critical : ℕ) (cost : ℕ × Rest) → forget (from_cost resources jobs deadline critical cost) ≡ all_read (forms_for (codes "capacity ") 1 resources ++ forms_for (codes "start ") 1 jobs) cost.1
capacities-forget resources jobs deadline critical cost =
    numbers-forget (codes "capacity ") 1 resources cost.1 (from_capacities jobs deadline critical cost.0) (forms_for (codes "start ") 1 jobs) (starts-forget jobs deadline critical cost.0)

cost-forget : (resources jobs deadline : ℕ) (critical : ℕ × Rest) → forget (from_critical resources jobs deadline critical) ≡ all_read (drop 2 (forms resources jobs)) critical.1
cost-forget resources jobs deadline critical =
    forget-bind (next_number (codes "cost ") most_cost critical.1) (from_cost resources jobs deadline critical.0) (λ (cost : ℕ × Rest). all_read (drop 3 (forms resources jobs)) cost.1) (capacities-forget resources jobs deadline critical.0)

critical-forget : (resources jobs : ℕ) (deadline : ℕ × Rest) → forget (from_deadline resources jobs deadline) ≡ all_read (drop 1 (forms resources jobs)) deadline.1
critical-forget resources jobs deadline =
    forget-bind (next_number (codes "critical ") most_number deadline.1) (from_critical resources jobs deadline.0) (λ (critical : ℕ × Rest). all_read (drop 2 (forms resources jobs)) critical.1) (cost-forget resources jobs deadline.0)

reading-forget : (resources jobs : ℕ) (text : List ℕ) → forget (reading resources jobs text) ≡ all_read (forms resources jobs) (rest_at 1 text)
unfolding reading
reading-forget resources jobs text =
    forget-bind (next_number (codes "deadline ") most_number (rest_at 1 text)) (from_deadline resources jobs) (λ (deadline : ℕ × Rest). all_read (drop 1 (forms resources jobs)) deadline.1) (critical-forget resources jobs)

-- a fault is that of reading, and the other way round
reading-fault : (resources jobs : ℕ) (text : List ℕ) (fault : TextFault) → resources < 2 ^ 32 → jobs < 2 ^ 32 → reading resources jobs text ≡ Err fault → IsFirstFault (forms resources jobs) 1 text fault
reading-fault resources jobs text fault some_resources some_jobs e =
    stops_at_first (forms resources jobs) 1 text fault (forms_fit resources jobs some_resources some_jobs) (sym (reading-forget resources jobs text) ∙ ap forget e)

forgotten : (r : Result Plan TextFault) (fault : TextFault) → forget r ≡ Err fault → r ≡ Err fault
forgotten (Ok plan) fault e = absurd (subst IsFault (sym e) tt)
forgotten (Err found) fault e = ap Err (same_err found fault e)

fault-reading : (resources jobs : ℕ) (text : List ℕ) (fault : TextFault) → resources < 2 ^ 32 → jobs < 2 ^ 32 → IsFirstFault (forms resources jobs) 1 text fault → reading resources jobs text ≡ Err fault
fault-reading resources jobs text fault some_resources some_jobs h =
    forgotten (reading resources jobs text) fault (reading-forget resources jobs text ∙ first_stops (forms resources jobs) 1 text fault (forms_fit resources jobs some_resources some_jobs) h)

-- the numbers of resources and jobs are small
abbrev pub Limited : Project → Type 0
Limited network = IsWithinLimits network.resources network.jobs

-- what reading answers is what a text is read as
pub is_reading : (network : Project) (text : List ℕ) (x : Result Plan TextFault) → Limited network → reading network.resources (length network.jobs) text ≡ x → IsPlanReading network text x
is_reading network text (Ok plan) limits e = read_written network text plan e
is_reading network text (Err fault) limits e = reading-fault network.resources (length network.jobs) text fault (omega (arith, limits.most_resources)) (omega (arith, limits.most_jobs)) e

pub reading_is : (network : Project) (text : List ℕ) (x : Result Plan TextFault) → Limited network → IsPlanReading network text x → reading network.resources (length network.jobs) text ≡ x
reading_is network text (Ok plan) limits h = ap (reading network.resources (length network.jobs)) h.0 ∙ written_read network plan limits h.1
reading_is network text (Err fault) limits h = fault-reading network.resources (length network.jobs) text fault (omega (arith, limits.most_resources)) (omega (arith, limits.most_jobs)) h

-- so reading is what the contract says
pub is_reading_or_memory : (network : Project) (text : List ℕ) (resources jobs : ℕ) (x : Result Plan TextFault) → Limited network → resources ≡ network.resources → jobs ≡ length network.jobs → GivesOrMemory x (reading resources jobs text) → IsPlanReadingOrMemory network text x
is_reading_or_memory network text resources jobs (Ok plan) limits r j e = is_reading network text (Ok plan) limits (sym (λ i. reading (r i) (j i) text) ∙ e)
is_reading_or_memory network text resources jobs (Err fault) limits r j h =
    let same : reading resources jobs text ≡ reading network.resources (length network.jobs) text = λ i. reading (r i) (j i) text in
    elim h [
      | inl e ↦ inl (is_reading network text (Err fault) limits (sym same ∙ e))
      | inr memory ↦ inr (memory.0, is_reading network text (Ok memory.0) limits (sym same ∙ memory.1), memory.2)
    ]

-- the laws
pub text_read : (network : Project) (text : List ℕ) → Limited network → (x : Result Plan TextFault) × IsPlanReading network text x
text_read network text limits = let x = reading network.resources (length network.jobs) text in (x, is_reading network text x limits refl)

pub one_reading : (network : Project) (text : List ℕ) (x y : Result Plan TextFault) → Limited network → IsPlanReading network text x → IsPlanReading network text y → x ≡ y
one_reading network text x y limits h k = sym (reading_is network text x limits h) ∙ reading_is network text y limits k

pub written_reading : (network : Project) (plan : Plan) (x : Result Plan TextFault) → Limited network → IsReadable network plan → IsPlanReading network (plan_text plan) x → x ≡ Ok plan
written_reading network plan x limits readable h = one_reading network (plan_text plan) x (Ok plan) limits h (refl, readable)

-- a fault is that of a line
fault_of_line : (forms : List Form) (n : ℕ) (text : List ℕ) (fault : TextFault) → IsFirstFault forms n text fault → (fault.kind ≢ Memory) × (n ≤ fault.line) × (fault.line ≤ n + length forms + 1)
fault_of_line [] n text fault h =
    let other : fault.kind ≢ Memory = λ (memory : fault.kind ≡ Memory). cc (h.0, memory) in
    elim h.1 [
      | inl missing ↦ (other, omega (arith, missing.0), omega (arith, missing.0))
      | inr more ↦ (other, omega (arith, more.0), omega (arith, more.0))
    ]
fault_of_line (form ∷ forms) n text fault (inl here) =
    let other : fault.kind ≢ Memory = λ (memory : fault.kind ≡ Memory). subst (IsWrong form text) memory here.1 in
    (other, omega (arith, here.0), omega (arith, here.0))
fault_of_line (form ∷ forms) n text fault (inr later) =
    let rest = fault_of_line forms (n + 1) later.1 fault later.4 in
    (rest.0, omega (arith, rest.1), omega (arith, rest.2))

length-forms_for : (word : List ℕ) (place count : ℕ) → length (forms_for word place count) ≡ count
length-forms_for word place zero = refl
length-forms_for word place (suc count) = ap suc (length-forms_for word (place + 1) count)

pub fault_has_line : (network : Project) (text : List ℕ) (fault : TextFault) → IsPlanReading network text (Err fault) → (fault.kind ≢ Memory) × (1 ≤ fault.line) × (fault.line ≤ network.resources + length network.jobs + 5)
fault_has_line network text fault h =
    let resources = network.resources in
    let jobs = length network.jobs in
    let line = fault_of_line (forms resources jobs) 1 text fault h in
    let count : length (forms_for (codes "capacity ") 1 resources ++ forms_for (codes "start ") 1 jobs) ≡ resources + jobs =
    length-append (forms_for (codes "capacity ") 1 resources) (forms_for (codes "start ") 1 jobs) ∙ (λ i. length-forms_for (codes "capacity ") 1 resources i + length-forms_for (codes "start ") 1 jobs i) in
    (line.0, line.1, omega (arith, line.2, count))
