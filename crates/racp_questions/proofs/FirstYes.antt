-- A list of questions has at most one first yes.
use Rattle.std.proofs.Common.{◌≡◌, ℕ, List, inl, inr, arith, refl, ap, Some, None}
use Rattle.std.proofs.lemmas.Bool.{cases_lt}
use Rattle.racp_model.specs.Project.{Project}
use Rattle.racp_model.specs.declared.question.Question.{Question}
use Rattle.racp_questions.specs.FirstYes.{IsYesAt, IsNoAt}
use Rattle.racp_questions.specs.Laws.{FirstYesIsOne}

-- a question is not both a yes and a no
pub not_both : (p : Project) (questions : List Question) (i : ℕ) → IsYesAt p questions i → IsNoAt p questions i → ⊥
not_both p questions i h g = g h.0 h.1

-- a list of questions has at most one first yes
pub one_first_yes : FirstYesIsOne
one_first_yes p questions (Some a) (Some b) h g = elim (cases_lt a b) [
  | inl less ↦ absurd (not_both p questions a h.1 (g.2 a less))
  | inr most ↦ elim (cases_lt b a) [
    | inl more ↦ absurd (not_both p questions b g.1 (h.2 b more))
    | inr least ↦ let e : a ≡ b = omega arith in ap Some e
  ]
]
one_first_yes p questions (Some a) None h g = absurd (not_both p questions a h.1 (g a h.0))
one_first_yes p questions None (Some b) h g = absurd (not_both p questions b g.1 (h b g.0))
one_first_yes p questions None None h g = refl
