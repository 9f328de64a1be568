-- The answer to a series of one question.
use Rattle.std.proofs.Common.{◌≡◌, ℕ, List, [], ◌∷◌, Some, subst, arith}
use Rattle.racp_model.specs.Project.{Project}
use Rattle.racp_model.specs.Window.{Bounds, IsYes, IsNo}
use Rattle.racp_model.specs.declared.question.Question.{Question}
use Rattle.racp_questions.specs.FirstYes.{IsFirst, IsFirstYes, IsYesAt}
use Rattle.racp_questions.specs.declared.asker.First.{First}
use Rattle.racp_questions.specs.declared.asker.First.TheVariants.{Yes, None as NoYes}
use Rattle.racp_candidates.specs.Questions.{question_of}
use Rattle.racp_questions.proofs.lemmas.Answered.{yes_of, no_of}

module _ (p : Project) (capacities : List ℕ) (window : Bounds) (questions : List Question) (answer : First) (is : questions ≡ question_of capacities window ∷ []) (first : IsFirst p questions answer) where
  -- a yes
  pub is_a_yes : (index : ℕ) (starts : List ℕ) → answer ≡ Yes index starts → IsYes p capacities window
  is_a_yes index starts e =
      let told : IsFirstYes p (question_of capacities window ∷ []) (Some index) = yes_of p questions (question_of capacities window ∷ []) answer index starts is e first in
      let at : index ≡ 0 = omega (arith, told.0) in
      subst (λ (i : ℕ). IsYesAt p (question_of capacities window ∷ []) i) at told.1

  -- a no
  pub is_a_no : answer ≡ NoYes → IsNo p capacities window
  is_a_no e = no_of p questions (question_of capacities window ∷ []) answer is e first 0 (omega arith)
