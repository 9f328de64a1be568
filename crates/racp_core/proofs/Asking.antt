-- A question is asked.
use Rattle.std.proofs.Common.{◌≡◌, ◌∙◌, ℕ, ◌-◌, true, false, List, [], ◌∷◌, ◌++◌, length, Option, Some, None, refl, sym, ap, subst, arith, length-append}
use Rattle.std.specs.Option.{option_to_list, is_some}
use Rattle.racp_model.specs.Project.{Project}
use Rattle.racp_model.specs.declared.question.Question.{Question}
use Rattle.racp_core.specs.Machine.{QuestionRow, Machine, all_questions, opened}
use Rattle.racp_core.specs.Steps.{IsNextAsked}
use Rattle.racp_core.specs.Rows.{IsOpening, IsOpenedIf}
use Rattle.racp_core.specs.Truth.{IsState}
use Rattle.racp_core.proofs.Questions.{questions_in, asked_all}
use Rattle.racp_core.proofs.Sound.{sound_ended}
use Rattle.racp_core.proofs.States.{state_asked}

-- the list to come is the same, whether its first question is held or not
pub state_held : (p : Project) (m : Machine) (places : List ℕ) (to_come : List Question) → to_come ≡ m.to_come → IsState p m places → IsState p (record m { to_come = to_come }) places
state_held p m places to_come e h = subst (λ (xs : List Question). IsState p (record m { to_come = xs }) places) (sym e) h

-- what follows where a question was asked
module _ (p : Project) (m : Machine) (places more : List ℕ) (held left : Option Question) (series : List Question) (rows : List QuestionRow) (none : m.least ≡ None) (same : option_to_list held ++ series ≡ m.to_come) (opening : IsOpenedIf held m.asked places true left rows more) where
  asked_there : (question : Question) × (held ≡ Some question) × (left ≡ None) × IsOpening question m.asked places rows more
  asked_there = go held refl opening
    where
      go : (o : Option Question) → held ≡ o → IsOpenedIf o m.asked places true left rows more → (question : Question) × (held ≡ Some question) × (left ≡ None) × IsOpening question m.asked places rows more
      go (Some question) e h = (question, e, h.0, h.1)
      go None e h = absurd h

  next_is : m.to_come ≡ asked_there.0 ∷ series
  next_is = sym same ∙ ap (λ (o : Option Question). option_to_list o ++ series) asked_there.1

  left_is : option_to_list left ++ series ≡ series
  left_is = ap (λ (o : Option Question). option_to_list o ++ series) asked_there.2

  pub state_opened : IsState p m places → IsState p (record m { asked = rows; to_come = option_to_list left ++ series }) more
  state_opened h = rw (left_is, asked_there.3.asked_next) (state_asked p m places more asked_there.0 series none next_is asked_there.3.added h)

  pub opened_step : (index : ℕ) → m.halted ≡ false → index ≡ length rows - 1 → IsNextAsked m (record m { asked = rows; to_come = option_to_list left ++ series }) index
  opened_step index running e =
      let long = ap length asked_there.3.asked_next ∙ length-append m.asked (opened asked_there.0 ∷ []) in
      rw (left_is, asked_there.3.asked_next) (record {
        running = running;
        unknown = none;
        next = omega (arith, e, long);
        first = (asked_there.0, series, next_is, refl);
      })

  pub opened_all : questions_in rows ++ (option_to_list left ++ series) ≡ all_questions m
  opened_all = rw (left_is, asked_there.3.asked_next) (asked_all m.asked asked_there.0 series ∙ ap (λ (qs : List Question). questions_in m.asked ++ qs) (sym next_is))

-- what follows where there was none
module _ (p : Project) (m : Machine) (places more : List ℕ) (held left : Option Question) (series : List Question) (rows : List QuestionRow) (same : option_to_list held ++ series ≡ m.to_come) (over : held ≡ None → series ≡ []) (opening : IsOpenedIf held m.asked places false left rows more) where
  ended_there : (held ≡ None) × (left ≡ None) × (rows ≡ m.asked) × (more ≡ places)
  ended_there = go held refl opening
    where
      go : (o : Option Question) → held ≡ o → IsOpenedIf o m.asked places false left rows more → (held ≡ None) × (left ≡ None) × (rows ≡ m.asked) × (more ≡ places)
      go (Some question) e h = absurd h
      go None e h = (e, h.0, h.1, h.2)

  left_none : option_to_list left ++ series ≡ []
  left_none = ap (λ (o : Option Question). option_to_list o ++ series) ended_there.1 ∙ over ended_there.0

  pub come_none : m.to_come ≡ []
  come_none = sym same ∙ ap (λ (o : Option Question). option_to_list o ++ series) ended_there.0 ∙ over ended_there.0

  pub state_ended : IsState p m places → IsState p (record m { asked = rows; to_come = option_to_list left ++ series; ended = true }) more
  state_ended h = rw (ended_there.2, ended_there.3, left_none, ← come_none) (record { sound = sound_ended p m come_none h.sound; undecided = h.undecided })

  pub ended_is : record m { asked = rows; to_come = option_to_list left ++ series; ended = true } ≡ record m { ended = true }
  ended_is = rw (ended_there.2, left_none, ← come_none) refl

-- an option that is not there is none
pub none_from : {X : Type 0} (o : Option X) → is_some o ≡ false → o ≡ None
none_from None e = refl
none_from (Some x) e = absurd (cc e)
