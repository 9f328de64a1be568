-- An asker's walk along a list of questions, up to the first yes.
use Rattle.std.proofs.Common.{◌≡◌, ◌∙◌, ℕ, ◌+◌, ◌<◌, List, [], ◌∷◌, length, slice_index_or, drop, arith, refl, ap, sym, subst, length-drop, drop-cons, add-one}
use Rattle.racp_model.specs.Project.{Project}
use Rattle.racp_model.specs.Window.{Answers, IsNo}
use Rattle.racp_model.specs.Formed.{IsFormed, AreFormed}
use Rattle.racp_model.specs.declared.question.Question.{Question}
use Rattle.racp_model.proofs.lemmas.Lists.{below_suc}
use Rattle.racp_questions.specs.FirstYes.{no_question, question_at, IsNoAt, AreNoBefore, IsFirst}
use Rattle.racp_questions.specs.declared.asker.First.TheVariants.{Yes, None as NoYes}

-- so many questions of a list were looked at, each is a no, and these are left
pub record IsWalked (p : Project) (questions left : List Question) (index : ℕ) : Type 0 where
  pub rest : drop index questions ≡ left
  pub none : AreNoBefore p questions index

module _ (p : Project) (questions : List Question) where
  -- at first all are left
  pub walk_begun : IsWalked p questions questions 0
  walk_begun = record { rest = refl; none = λ i l. absurd (omega (arith, l)) }

  module _ (left after : List Question) (question : Question) (index : ℕ) (walked : IsWalked p questions left index) (next : left ≡ question ∷ after) where
    -- the next question is one of the list
    pub walk_within : index < length questions
    walk_within = omega (arith, length-drop index questions, ap length (walked.rest ∙ next))

    -- at that index
    pub walk_at : (default : Question) → slice_index_or questions index default ≡ question
    walk_at default = ap (λ (qs : List Question). slice_index_or qs 0 default) (sym (drop-cons questions index default walk_within) ∙ (walked.rest ∙ next))

    -- so it has the form that all have
    pub walk_formed : AreFormed p questions → IsFormed p question
    walk_formed formed = formed question (index, walk_within, walk_at question)

    -- where it is a yes, it is the first
    pub walk_yes : (starts : List ℕ) → Answers p question.capacities question.window starts → IsFirst p questions (Yes index starts)
    walk_yes starts answers =
        let here : Answers p (question_at questions index).capacities (question_at questions index).window starts =
        subst (λ (q : Question). Answers p q.capacities q.window starts) (sym (walk_at no_question)) answers in
        ((walk_within, (starts, here), walked.none), here)

    -- where it is a no, the walk goes on behind it
    pub walk_no : IsNo p question.capacities question.window → IsWalked p questions after (index + 1)
    walk_no none = record {
      rest = rw add-one (ap (drop 1) (sym (drop-cons questions index no_question walk_within) ∙ (walked.rest ∙ next)));
      none = λ i l. below_suc (λ (i : ℕ). IsNoAt p questions i) index walked.none (subst (λ (q : Question). IsNo p q.capacities q.window) (sym (walk_at no_question)) none) i (omega (arith, l));
    }

  -- where none is left, none is a yes
  pub walk_ended : (left : List Question) (index : ℕ) → IsWalked p questions left index → left ≡ [] → IsFirst p questions NoYes
  walk_ended left index walked end i l = walked.none i (omega (arith, l, length-drop index questions, ap length (walked.rest ∙ end)))
