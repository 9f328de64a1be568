-- A clause that leaves out all that costs less than so much shows that no capacities that are enough do.
use Rattle.std.proofs.Common.{◌≡◌, ◌∙◌, ℕ, ◌+◌, ◌<◌, ◌≤◌, List, [], length, slice_index, slice_index_or, inl, inr, arith, ap, subst, sym}
use Rattle.std.specs.Prelude.{Any}
use Rattle.std.proofs.lemmas.Bool.{cases_lt}
use Rattle.std.proofs.lemmas.List.{get_or_default, get_or_read}
use Rattle.racp_model.specs.Project.{Project}
use Rattle.racp_model.proofs.lemmas.Cuts.{cut, cut-at, cut_places, cut-cost}
use Rattle.racp_clauses.specs.Solutions.{Problem, values, cost_place}
use Rattle.racp_clauses.specs.Clauses.{Satisfies, SatisfiesSome, Holds}
use Rattle.racp_clauses.specs.Roots.{IsOpen}
use Rattle.racp_clauses.specs.Uses.{IsLeastCost}
use Rattle.racp_clauses.specs.Tests.{clause_at}
use Rattle.racp_clauses.specs.declared.literal.Literal.{Literal}
use Rattle.racp_clauses.specs.declared.literal.Literal.TheVariants.{AtLeast, AtMost}
use Rattle.racp_clauses.proofs.lemmas.Places.{value-cost}
use Rattle.racp_clauses.proofs.lemmas.Solutions.{holds-of_fitting}
use Rattle.racp_derivations.specs.BoundTexts.{SaysLeast, LeavesOutLess}

-- where such a literal is true of values, the cost is as much or more
says-least : (p : Project) (least : ℕ) (l : Literal) (vs : List ℕ) → SaysLeast p least l → Satisfies l vs → least ≤ slice_index vs (cost_place p)
says-least p least (AtLeast x v) vs says true' =
    let at : v ≤ slice_index vs (cost_place p) = subst (λ (y : ℕ). v ≤ slice_index vs y) says.0 true' in
    omega (arith, says.1, at)
says-least p least (AtMost x v) vs says true' = absurd says

-- so all that is enough costs as much or more
left_out-least : (q : Problem) (least : ℕ) (clause : List Literal) → IsOpen q → Holds q clause → LeavesOutLess q.network least clause → IsLeastCost q least
left_out-least q least clause open' holds out whole e =
    let starts : List ℕ = e.admits.0 in
    let units : List ℕ = cut q.network whole in
    let some : SatisfiesSome clause (values q.terms starts units) = holds-of_fitting q clause whole units starts open' holds e.places e.ceilings e.admits.1 (cut_places q.network whole) (cut-at q.network whole) in
    let at : least ≤ slice_index (values q.terms starts units) (cost_place q.network) = says-least q.network least some.0 (values q.terms starts units) (out some.0 some.1) some.2 in
    omega (arith, at, value-cost q.network q.terms starts units e.admits.1.places (cut_places q.network whole), cut-cost q.network q.terms whole open'.terms)

-- the same of a network that is that of the problem, and of a clause by another name
pub least-by_clause : (q : Problem) (p : Project) (least : ℕ) (given clause : List Literal) → p ≡ q.network → given ≡ clause → IsOpen q → Holds q clause → LeavesOutLess p least given → IsLeastCost q least
least-by_clause q p least given clause same is open' holds out =
    left_out-least q least clause open' holds (subst (λ (r : Project). LeavesOutLess r least clause) same (subst (LeavesOutLess p least) is out))

-- the first n clauses of a list do not leave it out
abbrev pub AreNotSo : Project → ℕ → List (List Literal) → ℕ → Type 0
AreNotSo p least clauses n = (j : ℕ) → j < n → LeavesOutLess p least (clause_at clauses j) → ⊥

module _ (p : Project) (least : ℕ) (clauses : List (List Literal)) where
  -- nor does one more
  pub not-step : (n : ℕ) (clause : List Literal) → AreNotSo p least clauses n → n < length clauses → clause ≡ slice_index_or clauses n clause → (LeavesOutLess p least clause → ⊥) → AreNotSo p least clauses (n + 1)
  not-step n clause none place is not j below out = elim (cases_lt j n) [
    | inl before ↦ none j before out
    | inr here ↦
        let e : j ≡ n = omega (arith, below, here) in
        not (subst (LeavesOutLess p least) (ap (clause_at clauses) e ∙ sym (get_or_read clauses n clause place is [])) out)
  ]

  -- none does
  pub not-end : (n : ℕ) → AreNotSo p least clauses n → length clauses ≤ n → Any (LeavesOutLess p least) clauses → ⊥
  not-end n none all any =
      let at : clause_at clauses any.0 ≡ any.1 = get_or_default clauses any.0 [] any.1 any.2 ∙ any.3 in
      none any.0 (omega (arith, all, any.2)) (subst (LeavesOutLess p least) (sym at) any.4)
