-- Laws of the definitions. Each is the contract of a public function.
use Rattle.std.specs.Prelude.{◌≡◌, ℕ, List}
use Rattle.racp_model.specs.declared.question.Question.{Question}
use Rattle.racp_model.specs.Terms.{Terms}
use Rattle.racp_model.specs.Window.{Bounds}
use Rattle.racp_candidates.specs.Box.{AreBoxQuestions}

-- a box has at most one list of questions
abbrev pub BoxQuestionsAreOne : Type 0
BoxQuestionsAreOne =
    (terms : Terms) (floors roofs : List ℕ) (pairs : List (ℕ × ℕ)) (window : Bounds) (a b : List Question) →
    AreBoxQuestions terms floors roofs pairs window a → AreBoxQuestions terms floors roofs pairs window b → a ≡ b
