-- A written plan is read again, and what is read was written.
use Rattle.std.proofs.Common.{◌≡◌, refl, sym, ◌∙◌, ap, subst, ℕ, zero, suc, ◌+◌, ◌^◌, ◌<◌, ◌≤◌, inl, inr, Bool, true, false, cond, List, [], ◌∷◌, ◌++◌, length, All, arith, codes, append_assoc, append-nil, Ok, Err}
use Rattle.std.specs.Prelude.{Option, Some, None, Result, nat_le, bytes_eq, ◌==◌, ◌||◌}
use Rattle.std.specs.List.{list_any, before_first, after_first}
use Rattle.std.specs.Fmt.{decimal}
use Rattle.std.proofs.lemmas.Bool.{cases_Bool, cond-true, cond-false, le-leb, leb-true, eqb-true}
use Rattle.std.proofs.lemmas.List.Elements.{All-head, All-tail, All-nil, All-cons}
use Rattle.std.proofs.lemmas.List.Folds.{list_any-append}
use Rattle.std.proofs.lemmas.Slice.Eq.{bytes_eq-Decides}
use Rattle.racp_model.specs.Project.{Project, IsWithinLimits}
use Rattle.racp_plan.specs.TextFaults.{TextFault}
use Rattle.racp_plan.specs.declared.plan.Plan.{Plan}
use Rattle.racp_plan.specs.Texts.{line, plan_text}
use Rattle.racp_text.specs.Numbers.{value}
use Rattle.racp_plan.specs.PlanReading.{IsReadable, is_decimal, words_for, most_number, most_cost}
use Rattle.racp_model.specs.Steps.{◌>>=◌}
use Rattle.racp_model.proofs.lemmas.Results.{IsFault, bind_ok, same_ok}
use Rattle.racp_text.specs.Cuts.{is_line_feed}
use Rattle.racp_plan.specs.Steps.{Rest, next_line, after_words, number_on, next_number, next_numbers, last_line, reading, number_line, number_lines}
use Rattle.racp_plan.proofs.lemmas.Fronts.{parts_of, whole_of, words_before, words_from, line_cut, some_place}
use Rattle.racp_plan.proofs.lemmas.Digits.{decimal-is, value-decimal, decimal-value, not_in_decimal}
use Rattle.racp_plan.proofs.lemmas.Numbered.{start_word, capacity_word}
use Rattle.racp_plan.proofs.PlanTexts.{from_starts, from_capacities, from_cost, from_critical, plan_text_is}

-- reading goes on with what is read
pub bind_on : {A B : Type 0} (r : Result A TextFault) (next : A → Result B TextFault) (x : A) (y : Result B TextFault) → r ≡ Ok x → next x ≡ y → (r >>= next) ≡ y
bind_on r next x y e f = ap (λ s. s >>= next) e ∙ f

-- what is left of a text from a line on
abbrev pub rest_at : ℕ → List ℕ → Rest
rest_at n bytes = record { line = n; bytes = bytes }

-- a line that is written is the next line
pub line_next : (n : ℕ) (text more : List ℕ) → list_any is_line_feed text ≡ false → next_line (rest_at n (line text ++ more)) ≡ Ok (text, rest_at (n + 1) more)
unfolding line
line_next n text more none =
    let whole : line text ++ more ≡ text ++ 10 ∷ more = append_assoc text (10 ∷ []) more in
    ap (λ bytes. next_line (rest_at n bytes)) whole ∙ line_cut (rest_at n (text ++ 10 ∷ more)) text more (parts_of is_line_feed text 10 more none refl)

-- a number that is written is read
number_reads : (n most number : ℕ) → number ≤ most → number < 2 ^ 64 → number_on n most (Some (decimal number)) ≡ Ok number
number_reads n most number within fits =
    let v = value-decimal number fits in
    cond-true _ _ _ (decimal-is number fits) ∙ (cond-true _ _ _ (le-leb (value (decimal number)) most (omega (arith, v, within))) ∙ ap Ok v)

-- words and a number have no line feed
no_feed : (words : List ℕ) (number : ℕ) → number < 2 ^ 64 → list_any is_line_feed words ≡ false → list_any is_line_feed (words ++ decimal number) ≡ false
no_feed words number fits none =
    let rest : list_any is_line_feed (decimal number) ≡ false = not_in_decimal 10 number (omega arith) fits in
    list_any-append is_line_feed words (decimal number) ∙ (λ i. none i || rest i)

number_next : (words : List ℕ) (most n number : ℕ) (more : List ℕ) → list_any is_line_feed words ≡ false → number ≤ most → number < 2 ^ 64 →
    next_number words most (rest_at n (number_line words number ++ more)) ≡ Ok (number, rest_at (n + 1) more)
unfolding next_number
number_next words most n number more none within fits =
    let first = line_next n (words ++ decimal number) more (no_feed words number fits none) in
    let read : number_on n most (after_words words (words ++ decimal number)) ≡ Ok number = ap (number_on n most) (words_before words (decimal number)) ∙ number_reads n most number within fits in
    ap (λ r. r >>= (λ found. number_on n most (after_words words found.0) >>= (λ value. Ok (value, found.1)))) first
    ∙ ap (λ r. r >>= (λ value. Ok (value, rest_at (n + 1) more))) read

-- the words of a resource or a job have no line feed
pub own_words : (word : List ℕ) (place : ℕ) → place < 2 ^ 64 → list_any is_line_feed word ≡ false → list_any is_line_feed (words_for word place) ≡ false
unfolding words_for
own_words word place fits none = list_any-append is_line_feed (word ++ decimal place) (codes " ") ∙ ap (λ b. b || false) (no_feed word place fits none)

-- the numbers of lines that are written are read
abbrev pub Within : ℕ → Type 0
Within n = n ≤ most_number

numbers_next : (word : List ℕ) (place n : ℕ) (numbers more : List ℕ) → list_any is_line_feed word ≡ false → place + length numbers < 2 ^ 64 → All Within numbers →
    (m : ℕ) × (next_numbers word place (length numbers) (rest_at n (number_lines word place numbers ++ more)) ≡ Ok (numbers, rest_at m more))
unfolding next_numbers
numbers_next word place n [] more none fits within = (n, refl)
numbers_next word place n (number ∷ numbers) more none fits within =
    let own : list_any is_line_feed (words_for word place) ≡ false = own_words word place (omega arith) none in
    let first = number_next (words_for word place) most_number n number (number_lines word (place + 1) numbers ++ more) own (All-head Within number numbers within) (omega (arith, All-head Within number numbers within)) in
    let others = numbers_next word (place + 1) (n + 1) numbers more none (omega (arith, fits)) (All-tail Within number numbers within) in
    let whole = append_assoc (number_line (words_for word place) number) (number_lines word (place + 1) numbers) more in (
      others.0,
      ap (λ bytes. next_numbers word place (suc (length numbers)) (rest_at n bytes)) whole
          ∙ bind_on _ (λ read. next_numbers word (place + 1) (length numbers) read.1 >>= (λ more. Ok (read.0 ∷ more.0, more.1))) (number, rest_at (n + 1) (number_lines word (place + 1) numbers ++ more)) _ first
          (bind_on _ (λ read. Ok (number ∷ read.0, read.1)) (numbers, rest_at others.0 more) _ others.1 refl),
    )

-- the last line is read
last_reads : (n : ℕ) → last_line (rest_at n (line (codes "end"))) ≡ Ok tt
unfolding last_line
last_reads n =
    let whole : line (codes "end") ≡ line (codes "end") ++ [] = sym (append-nil (line (codes "end"))) in
    ap (λ bytes. last_line (rest_at n bytes)) whole ∙ bind_on _ _ (codes "end", rest_at (n + 1) []) _ (line_next n (codes "end") [] refl) refl

plan_reads : (plan : Plan) → length plan.capacities < 2 ^ 32 → length plan.starts < 2 ^ 32 → plan.deadline ≤ most_number → plan.critical ≤ most_number → plan.cost ≤ most_cost → All Within plan.capacities → All Within plan.starts →
    reading (length plan.capacities) (length plan.starts) (number_line (codes "deadline ") plan.deadline ++ from_critical plan) ≡ Ok plan
unfolding reading
plan_reads plan resources jobs deadline critical cost capacities starts =
    let owned = numbers_next capacity_word 1 4 plan.capacities (from_starts plan) refl (omega arith) capacities in
    let begun = numbers_next start_word 1 owned.0 plan.starts (line (codes "end")) refl (omega arith) starts in
    bind_on _ _ (plan.deadline, rest_at 2 (from_critical plan)) _ (number_next (codes "deadline ") most_number 1 plan.deadline (from_critical plan) refl deadline (omega arith))
    (bind_on _ _ (plan.critical, rest_at 3 (from_cost plan)) _ (number_next (codes "critical ") most_number 2 plan.critical (from_cost plan) refl critical (omega arith))
    (bind_on _ _ (plan.cost, rest_at 4 (from_capacities plan)) _ (number_next (codes "cost ") most_cost 3 plan.cost (from_capacities plan) refl cost (omega arith))
    (bind_on _ _ (plan.capacities, rest_at owned.0 (from_starts plan)) _ owned.1
    (bind_on _ _ (plan.starts, rest_at begun.0 (line (codes "end"))) _ begun.1
    (bind_on _ _ tt _ (last_reads begun.0) refl)))))

pub written_read : (network : Project) (plan : Plan) → IsWithinLimits network.resources network.jobs → IsReadable network plan → reading network.resources (length network.jobs) (plan_text plan) ≡ Ok plan
written_read network plan limits h =
    (λ i. reading (sym h.resources i) (sym h.jobs i) (plan_text_is plan i)) ∙ plan_reads plan (omega (arith, h.resources, limits.most_resources)) (omega (arith, h.jobs, limits.most_jobs)) h.deadline h.critical h.cost h.capacities h.starts

-- a line that is read
pub line_read : (rest : Rest) (x : List ℕ × Rest) → next_line rest ≡ Ok x → rest.bytes ≡ line x.0 ++ x.1.bytes
unfolding line
line_read rest x e = elim (cases_Bool (list_any is_line_feed rest.bytes)) [
  | inl t ↦
      let parts : List ℕ × Rest = (before_first is_line_feed rest.bytes, rest_at (rest.line + 1) (after_first is_line_feed rest.bytes)) in
      let same : parts ≡ x = same_ok parts x (sym (cond-true _ _ _ t) ∙ e) in
      let whole : rest.bytes ≡ parts.0 ++ 10 ∷ parts.1.bytes = whole_of 10 rest.bytes parts.0 parts.1.bytes (some_place is_line_feed rest.bytes t, refl, refl) in
      whole ∙ ap (λ (y : List ℕ × Rest). y.0 ++ 10 ∷ y.1.bytes) same ∙ sym (append_assoc x.0 (10 ∷ []) x.1.bytes)
  | inr f ↦ absurd (subst IsFault (sym (cond-false _ _ _ f) ∙ e) tt)
]

-- a number that is read on a line
digits_read : (decimal fits : Bool) (v n : ℕ) (f g : TextFault) → cond decimal (cond fits (Ok v) (Err f)) (Err g) ≡ Ok n → (decimal ≡ true) × (fits ≡ true) × (v ≡ n)
digits_read true true v n f g e = (refl, refl, same_ok v n e)
digits_read true false v n f g e = absurd (subst IsFault e tt)
digits_read false fits v n f g e = absurd (subst IsFault e tt)

pub number_read : (n most number : ℕ) (digits : Option (List ℕ)) → most < 2 ^ 64 → number_on n most digits ≡ Ok number → (digits ≡ Some (decimal number)) × (number ≤ most)
number_read n most number None fits e = absurd (subst IsFault e tt)
number_read n most number (Some digits) fits e =
    let parts = digits_read (is_decimal digits) (nat_le (value digits) most) (value digits) number _ _ e in
    let within : number ≤ most = subst (λ v. v ≤ most) parts.2 (leb-true (value digits) most parts.1) in
    (ap Some (sym (decimal-value digits parts.0 (omega (arith, parts.2, within))) ∙ ap decimal parts.2), within)

-- what the next line says where it is read
pub next_read : (words : List ℕ) (most : ℕ) (rest : Rest) (x : ℕ × Rest) → most < 2 ^ 64 → next_number words most rest ≡ Ok x → (rest.bytes ≡ number_line words x.0 ++ x.1.bytes) × (x.0 ≤ most)
unfolding next_number
next_read words most rest x fits e =
    let found = bind_ok (next_line rest) _ x e in
    let number = bind_ok (number_on rest.line most (after_words words found.0.0)) _ x found.2 in
    let said = number_read rest.line most number.0 (after_words words found.0.0) fits number.1 in
    let text = line_read rest found.0 found.1 in
    let written : found.0.0 ≡ words ++ decimal number.0 = words_from words found.0.0 (decimal number.0) said.0 in
    subst (λ (y : ℕ × Rest). (rest.bytes ≡ number_line words y.0 ++ y.1.bytes) × (y.0 ≤ most)) (same_ok (number.0, found.0.1) x number.2)
    (text ∙ ap (λ (l : List ℕ). line l ++ found.0.1.bytes) written, said.1)

-- what the next lines say
pub numbers_read : (word : List ℕ) (place count : ℕ) (rest : Rest) (x : List ℕ × Rest) → next_numbers word place count rest ≡ Ok x →
    (rest.bytes ≡ number_lines word place x.0 ++ x.1.bytes) × (length x.0 ≡ count) × All Within x.0
unfolding next_numbers
numbers_read word place zero rest x e =
    subst (λ (y : List ℕ × Rest). (rest.bytes ≡ number_lines word place y.0 ++ y.1.bytes) × (length y.0 ≡ 0) × All Within y.0) (same_ok ([], rest) x e) (refl, refl, All-nil Within)
numbers_read word place (suc count) rest x e =
    let first = bind_ok (next_number (words_for word place) most_number rest) _ x e in
    let others = bind_ok (next_numbers word (place + 1) count first.0.1) _ x first.2 in
    let here = next_read (words_for word place) most_number rest first.0 (omega arith) first.1 in
    let there = numbers_read word (place + 1) count first.0.1 others.0 others.1 in
    let text : rest.bytes ≡ number_lines word place (first.0.0 ∷ others.0.0) ++ others.0.1.bytes =
    here.0 ∙ ap (λ (t : List ℕ). number_line (words_for word place) first.0.0 ++ t) there.0 ∙ sym (append_assoc (number_line (words_for word place) first.0.0) (number_lines word (place + 1) others.0.0) others.0.1.bytes) in
    subst (λ (y : List ℕ × Rest). (rest.bytes ≡ number_lines word place y.0 ++ y.1.bytes) × (length y.0 ≡ suc count) × All Within y.0) (same_ok (first.0.0 ∷ others.0.0, others.0.1) x others.2)
    (text, ap suc there.1, All-cons Within first.0.0 others.0.0 here.1 there.2)

-- what the last line says
pub no_more : (bytes : List ℕ) → (length bytes == 0) ≡ true → bytes ≡ []
no_more [] e = refl
no_more (x ∷ bytes) e = absurd (omega (arith, eqb-true (length (x ∷ bytes)) 0 e))

pub last_read : (rest : Rest) (x : Unit {0}) → last_line rest ≡ Ok x → rest.bytes ≡ line (codes "end")
unfolding last_line
last_read rest x e =
    let found = bind_ok (next_line rest) _ x e in
    let text = line_read rest found.0 found.1 in
    elim (cases_Bool (bytes_eq found.0.0 (codes "end"))) [
      | inl t ↦
          let last : found.0.0 ≡ codes "end" = (bytes_eq-Decides found.0.0 (codes "end")).0 t in
          let then = sym (cond-true _ _ _ t) ∙ found.2 in
          elim (cases_Bool (length found.0.1.bytes == 0)) [
            | inl none ↦ text ∙ (λ i. line (last i) ++ no_more found.0.1.bytes none i) ∙ append-nil (line (codes "end"))
            | inr some ↦ absurd (subst IsFault (sym (cond-false _ _ _ some) ∙ then) tt)
          ]
      | inr f ↦ absurd (subst IsFault (sym (cond-false _ _ _ f) ∙ found.2) tt)
    ]

-- a plan that is read was written
abbrev pub IsWritten : ℕ → ℕ → List ℕ → Plan → Type 0
IsWritten resources jobs text plan =
    (text ≡ plan_text plan) × (length plan.capacities ≡ resources) × (length plan.starts ≡ jobs) × (plan.deadline ≤ most_number) × (plan.critical ≤ most_number) × (plan.cost ≤ most_cost) × All Within plan.capacities × All Within plan.starts

plan_read : (resources jobs : ℕ) (text : List ℕ) (plan : Plan) → reading resources jobs text ≡ Ok plan → IsWritten resources jobs text plan
unfolding reading
plan_read resources jobs text plan e =
    let deadline = bind_ok (next_number (codes "deadline ") most_number (rest_at 1 text)) _ plan e in
    let critical = bind_ok (next_number (codes "critical ") most_number deadline.0.1) _ plan deadline.2 in
    let cost = bind_ok (next_number (codes "cost ") most_cost critical.0.1) _ plan critical.2 in
    let capacities = bind_ok (next_numbers capacity_word 1 resources cost.0.1) _ plan cost.2 in
    let starts = bind_ok (next_numbers start_word 1 jobs capacities.0.1) _ plan capacities.2 in
    let end = bind_ok (last_line starts.0.1) _ plan starts.2 in
    let made : Plan = record { deadline = deadline.0.0; critical = critical.0.0; cost = cost.0.0; capacities = capacities.0.0; starts = starts.0.0 } in
    let first = next_read (codes "deadline ") most_number (rest_at 1 text) deadline.0 (omega arith) deadline.1 in
    let second = next_read (codes "critical ") most_number deadline.0.1 critical.0 (omega arith) critical.1 in
    let third = next_read (codes "cost ") most_cost critical.0.1 cost.0 (omega arith) cost.1 in
    let fourth = numbers_read capacity_word 1 resources cost.0.1 capacities.0 capacities.1 in
    let fifth = numbers_read start_word 1 jobs capacities.0.1 starts.0 starts.1 in
    let sixth : starts.0.1.bytes ≡ line (codes "end") = last_read starts.0.1 end.0 end.1 in
    let from_five : capacities.0.1.bytes ≡ from_starts made = fifth.0 ∙ ap (λ (t : List ℕ). number_lines start_word 1 starts.0.0 ++ t) sixth in
    let from_four : cost.0.1.bytes ≡ from_capacities made = fourth.0 ∙ ap (λ (t : List ℕ). number_lines capacity_word 1 capacities.0.0 ++ t) from_five in
    let from_three : critical.0.1.bytes ≡ from_cost made = third.0 ∙ ap (λ (t : List ℕ). number_line (codes "cost ") cost.0.0 ++ t) from_four in
    let from_two : deadline.0.1.bytes ≡ from_critical made = second.0 ∙ ap (λ (t : List ℕ). number_line (codes "critical ") critical.0.0 ++ t) from_three in
    let whole : text ≡ plan_text made = first.0 ∙ ap (λ (t : List ℕ). number_line (codes "deadline ") deadline.0.0 ++ t) from_two ∙ sym (plan_text_is made) in
    subst (IsWritten resources jobs text) (same_ok made plan end.2) (whole, fourth.1, fifth.1, first.1, second.1, third.1, fourth.2, fifth.2)

pub read_written : (network : Project) (text : List ℕ) (plan : Plan) → reading network.resources (length network.jobs) text ≡ Ok plan → (text ≡ plan_text plan) × IsReadable network plan
read_written network text plan e =
    let h = plan_read network.resources (length network.jobs) text plan e in
    (h.0, record { resources = h.1; jobs = h.2; deadline = h.3; critical = h.4; cost = h.5; capacities = h.6; starts = h.7 })
