-- Laws of the definitions. Each is the contract of a public function.
use Rattle.std.specs.Prelude.{◌≡◌, ℕ, List, Option}
use Rattle.racp_model.specs.Project.{Project}
use Rattle.racp_model.specs.declared.question.Question.{Question}
use Rattle.racp_questions.specs.FirstYes.{IsFirstYes}

-- a list of questions has at most one first yes
abbrev pub FirstYesIsOne : Type 0
FirstYesIsOne =
    (p : Project) (questions : List Question) (a b : Option ℕ) → IsFirstYes p questions a → IsFirstYes p questions b →
    a ≡ b
