-- The text that `plan` writes tells its status, by its first letter.
use Rattle.std.proofs.Common.{◌≡◌, ◌==◌, inl, inr, ℕ, Bool, List, get_or, if◌then◌else◌, refl, sym, ap, ◌∙◌}
use Rattle.racp_plan.specs.Texts.{line, deadline_line, plan_text}
use Rattle.racp_lexfix.specs.Texts.{impossible_line, due_line, ceiling_line, answer_text, answer_status}
use Rattle.racp_lexfix.specs.declared.answer.Answer.{Answer}
use Rattle.racp_lexfix.specs.declared.answer.Answer.TheVariants.{Plan as ThePlan, Impossible, Due, Ceiling}
use Rattle.racp_sm.specs.Faults.{SmFault}
use Rattle.racp_prices.specs.declared.fault.OrderFault.{OrderFault}
use Rattle.racp_cli.specs.Texts.{refusal_line, order_refusal_line, memory_line, stopped_line, no_thread_line}
use Rattle.racp_cli.specs.Crowds.{IsCrowdAnswer}
use Rattle.racp_cli.specs.Plans.{IsPlanAnswer}

-- the status of a text, by its first letter
status_by : List ℕ → ℕ
status_by text =
    let letter = get_or text 0 0 in
    if letter == 100 then 0 else if letter == 105 then 3 else if letter == 115 then 4 else if letter == 114 then 5 else if letter == 110 then 7 else 6

-- the first letter tells the status of an answer, and of each other line
answer_tells : (deadline : ℕ) (answer : Answer) → status_by (answer_text deadline answer) ≡ answer_status answer
unfolding status_by plan_text deadline_line line impossible_line due_line ceiling_line
answer_tells deadline (ThePlan plan) = refl
answer_tells deadline (Impossible longest) = refl
answer_tells deadline (Due job) = refl
answer_tells deadline Ceiling = refl

network_tells : (fault : SmFault) → status_by (refusal_line fault) ≡ 5
unfolding status_by line refusal_line
network_tells fault = refl

order_tells : (fault : OrderFault) → status_by (order_refusal_line fault) ≡ 5
unfolding status_by line order_refusal_line
order_tells fault = refl

memory_tells : status_by memory_line ≡ 6
unfolding status_by line memory_line
memory_tells = refl

stopped_tells : (capacities : List ℕ) → status_by (stopped_line capacities) ≡ 4
unfolding status_by line stopped_line
stopped_tells capacities = refl

no_thread_tells : status_by no_thread_line ≡ 7
unfolding status_by line no_thread_line
no_thread_tells = refl

told : (net order text : List ℕ) (status : ℕ) → IsPlanAnswer net order status text → status_by text ≡ status
told net order text status h = elim h [
  | inl p ↦ ap status_by p.with_text ∙ answer_tells p.terms.deadline p.answer ∙ sym p.with_status
  | inr refused ↦ elim refused [
    | inl p ↦ ap status_by p.3 ∙ network_tells p.0 ∙ sym p.2
    | inr later ↦ elim later [
      | inl p ↦ ap status_by p.5 ∙ order_tells p.1 ∙ sym p.4
      | inr p ↦ ap status_by p.1 ∙ memory_tells ∙ sym p.0
    ]
  ]
]

told_by_all : (turns : ℕ) (quiet : Bool) (net order text : List ℕ) (status : ℕ) → IsCrowdAnswer turns quiet net order status text → status_by text ≡ status
told_by_all turns quiet net order text status h = elim h [
  | inl p ↦ told net order text status p
  | inr later ↦ elim later [
    | inl p ↦ ap status_by p.with_text ∙ stopped_tells p.not_before ∙ sym p.with_status
    | inr p ↦ ap status_by p.1 ∙ no_thread_tells ∙ sym p.0
  ]
]

-- one text has one status
pub same_status : (turns other_turns : ℕ) (quiet other_quiet : Bool) (net order other_net other_order text : List ℕ) (a b : ℕ) → IsCrowdAnswer turns quiet net order a text → IsCrowdAnswer other_turns other_quiet other_net other_order b text → a ≡ b
same_status turns other_turns quiet other_quiet net order other_net other_order text a b first second = sym (told_by_all turns quiet net order text a first) ∙ told_by_all other_turns other_quiet other_net other_order text b second
