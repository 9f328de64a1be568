use Rattle.std.proofs.Common.{rules, ◌≡◌, ◌∙◌, ◌∷◌, ℕ, ◌+◌, ◌-◌, ap, map, set, sym}
use Rattle.std.specs.List.{range_with_len}
use Rattle.racp_model.specs.declared.question.Question.{Question}
use Rattle.racp_candidates.specs.Questions.{question_of, window_at}
use Rattle.racp_candidates.proofs.Values.{values_step}
use Rattle.racp_candidates.proofs.start_values.Starts1Series.next.Goals as goal

pub returns : goal.returns
returns c =
    let i = c.self.inside in
    let question : ℕ → Question = λ start. question_of i.capacities.items (window_at (record { lower = i.lower.items; upper = i.upper.items }) i.place start) in
    let capacities : i.capacities.items ≡ c.new.result = search (rules, c.in_ok-capacities.ensures, c.deref.ensures, c.new.ensures) in
    let lower : set i.lower.items i.place i.next ≡ c.new-2.result = cc (c.in_ok-lower.ensures, c.deref-2.ensures.value, c.new-2.ensures) in
    let upper : set i.upper.items i.place i.next ≡ c.new-3.result = cc (c.in_ok-upper.ensures, c.deref-3.ensures.value, c.new-3.ensures) in
    let both : record { lower = c.new-2.result; upper = c.new-3.result } ≡ c.new-4.result = sym c.new-4.ensures in
    let window : window_at (record { lower = i.lower.items; upper = i.upper.items }) i.place i.next ≡ c.new-4.result = (λ j. record { lower = lower j; upper = upper j }) ∙ both in
    sym c.self.view_is ∙ (values_step question i.next i.end c.if-self.false ∙ ap (λ (q : Question). q ∷ map question (range_with_len (i.next + 1) (i.end - (i.next + 1)))) (λ j. record { capacities = capacities j; window = window j }))
