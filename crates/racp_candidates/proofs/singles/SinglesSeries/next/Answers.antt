use Rattle.std.proofs.Common.{◌≡◌, ◌∙◌, ◌∷◌, ℕ, ◌+◌, ◌-◌, ap, map, set, sym}
use Rattle.std.specs.List.{range_with_len}
use Rattle.racp_model.specs.declared.question.Question.{Question}
use Rattle.racp_candidates.specs.Questions.{question_of}
use Rattle.racp_candidates.proofs.Values.{values_step}
use Rattle.racp_candidates.proofs.singles.SinglesSeries.next.Goals as goal

pub returns : goal.returns
returns c =
    let i = c.self.inside in
    let question : ℕ → Question = λ units. question_of (set i.roofs.items i.place units) i.window in
    let units : set i.roofs.items i.place i.next ≡ c.new.result = cc (c.in_ok-units.ensures, c.deref.ensures.value, c.new.ensures) in
    let window : i.window ≡ c.in_ok-window.window = sym c.in_ok-window.ensures in
    sym c.self.view_is ∙ (values_step question i.next i.end c.if-self.false ∙ ap (λ (q : Question). q ∷ map question (range_with_len (i.next + 1) (i.end - (i.next + 1)))) (λ j. record { capacities = units j; window = window j }))
