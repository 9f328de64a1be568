-- From a row that no solution is less than to the plan.
use Rattle.std.proofs.Common.{◌≡◌, ◌∙◌, ℕ, ◌+◌, List, length, ap, sym, subst}
use Rattle.racp_model.specs.Project.{Project}
use Rattle.racp_model.specs.Terms.{Terms}
use Rattle.racp_model.specs.Plan.{IsPlan}
use Rattle.racp_clauses.specs.Solutions.{Problem, values, cost_place}
use Rattle.racp_clauses.specs.Roots.{IsOpen}
use Rattle.racp_clauses.proofs.lemmas.Places.{value-count}
use Rattle.racp_plan.specs.Fitting.{AreFitting}
use Rattle.racp_clauses.specs.Least.{AreLeast, NoneIsLessBy, NoneStandBefore}
use Rattle.racp_clauses.proofs.Leading.{first-holds, least-plan}

-- a row of the values of starts and units has a place for each variable
pub row-places : (p : Project) (terms : Terms) (starts capacities : List ℕ) → length starts ≡ length p.jobs → length capacities ≡ p.resources → (row now : List ℕ) → now ≡ row → row ≡ values terms starts capacities →
    length now ≡ cost_place p + 1
row-places p terms starts capacities places resources row now same is = ap (λ (xs : List ℕ). length xs) (same ∙ is) ∙ value-count p terms starts capacities places resources

module _ (q : Problem) (p : Project) (terms : Terms) (row starts capacities : List ℕ) (turns : ℕ) (same : p ≡ q.network) (is : terms ≡ q.terms) (open' : IsOpen q)
    (row-is : row ≡ values terms starts capacities) (least : AreLeast q turns row) where
  -- the values of the starts and the capacities on the terms of the problem
  pub values-least : AreLeast q turns (values q.terms starts capacities)
  values-least x l before =
      subst (λ (vs : List ℕ). NoneIsLessBy q x vs) (row-is ∙ ap (λ (t : Terms). values t starts capacities) is) (least x l before)

  pub ending-plan : turns ≡ cost_place p + 1 → AreFitting p terms capacities starts → IsPlan p terms capacities starts
  ending-plan all fit =
      let here : AreFitting q.network q.terms capacities starts =
      subst (λ (r : Project). AreFitting r q.terms capacities starts) same (subst (λ (t : Terms). AreFitting p t capacities starts) is fit) in
      let every : cost_place q.network + 1 ≡ turns = ap (λ (r : Project). cost_place r + 1) (sym same) ∙ sym all in
      let plan : IsPlan q.network q.terms capacities starts =
      least-plan q capacities starts open' here (subst (λ n. AreLeast q n (values q.terms starts capacities)) (sym every) values-least) in
      subst (λ (r : Project). IsPlan r terms capacities starts) (sym same) (subst (λ (t : Terms). IsPlan q.network t capacities starts) (sym is) plan)

  pub ending-first : turns ≡ p.resources + 1 → length starts ≡ length p.jobs → length capacities ≡ p.resources → NoneStandBefore p terms capacities
  ending-first all places resources =
      let every : q.network.resources + 1 ≡ turns = ap (λ (r : Project). r.resources + 1) (sym same) ∙ sym all in
      let none : NoneStandBefore q.network q.terms capacities =
      first-holds q starts capacities open' (places ∙ ap (λ (r : Project). length r.jobs) same) (resources ∙ ap (λ (r : Project). r.resources) same)
      (subst (λ n. AreLeast q n (values q.terms starts capacities)) (sym every) values-least) in
      subst (λ (r : Project). NoneStandBefore r terms capacities) (sym same) (subst (λ (t : Terms). NoneStandBefore q.network t capacities) (sym is) none)
