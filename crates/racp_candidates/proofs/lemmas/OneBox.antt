-- A box has at most one list of questions.
use Rattle.std.proofs.Common.{◌≡◌, ℕ, List, sym, subst, Contains}
use Rattle.std.proofs.lemmas.List.Elements.{All-contains}
use Rattle.racp_model.specs.Terms.{Terms, IsBefore}
use Rattle.racp_model.specs.Window.{Bounds}
use Rattle.racp_model.specs.declared.question.Question.{Question}
use Rattle.racp_model.proofs.lemmas.Costs.{before_trans, before_apart}
use Rattle.racp_model.proofs.lemmas.Relations.{same_from_members}
use Rattle.racp_candidates.specs.Questions.{question_of}
use Rattle.racp_candidates.specs.Box.{AreBoxQuestions}
use Rattle.racp_candidates.specs.Laws.{BoxQuestionsAreOne}

module _ (terms : Terms) (floors roofs : List ℕ) (pairs : List (ℕ × ℕ)) (window : Bounds) where
  -- each question of one list is in the other
  pub in_other : (a b : List Question) → AreBoxQuestions terms floors roofs pairs window a → AreBoxQuestions terms floors roofs pairs window b → (q : Question) → Contains a q → Contains b q
  in_other a b h g q c =
      let at : q.window ≡ window = All-contains (λ (p : Question). p.window ≡ window) a q h.windows c in
      let same : q ≡ question_of q.capacities window = λ i. record { capacities = q.capacities; window = at i } in
      subst (Contains b) (sym same) ((g.members q.capacities).1 ((h.members q.capacities).0 (subst (Contains a) same c)))

pub one_box : BoxQuestionsAreOne
one_box terms floors roofs pairs window a b h g =
    same_from_members (λ (x y : Question). IsBefore terms x.capacities y.capacities)
    (λ x y there back. before_apart terms x.capacities (before_trans terms x.capacities y.capacities x.capacities there back))
    a b h.rising g.rising (in_other terms floors roofs pairs window a b h g) (in_other terms floors roofs pairs window b a g h)
