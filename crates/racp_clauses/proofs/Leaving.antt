-- Which literals are false of what is less, and so which clauses leave it out.
use Rattle.std.proofs.Common.{◌≡◌, ◌∙◌, ℕ, ◌+◌, ◌<◌, ◌≤◌, List, length, slice_index, slice_index_or, inl, inr, arith, ap, sym, subst}
use Rattle.std.proofs.lemmas.Bool.{cases_lt}
use Rattle.std.proofs.lemmas.List.{get_or_default, get_or_read}
use Rattle.racp_model.specs.Project.{Project}
use Rattle.racp_clauses.specs.Solutions.{Problem, values}
use Rattle.racp_clauses.specs.Clauses.{Satisfies, Holds}
use Rattle.racp_clauses.specs.declared.literal.Literal.{Literal}
use Rattle.racp_clauses.specs.declared.literal.Literal.TheVariants.{AtLeast, AtMost}
use Rattle.racp_clauses.specs.Least.{AreLessBy, NoneIsLessBy}
use Rattle.racp_clauses.specs.Tests.{IsOut, IsAllOut, LeavesOut}

-- a literal that is out is false of what is less
pub out-false : (p : Project) (x : ℕ) (vs : List ℕ) (l : Literal) (less : List ℕ) → IsOut p x vs l → AreLessBy p x vs less → Satisfies l less → ⊥
out-false p x vs (AtLeast y v) less out is true' = elim out [
  | inl here ↦
      let at : v ≤ slice_index less x = subst (λ z. v ≤ slice_index less z) here.0 true' in
      let most : slice_index vs x ≤ v = subst (λ z. slice_index vs z ≤ v) here.0 here.1 in
      omega (arith, at, most, is.less)
  | inr before ↦ omega (arith, before.1, true', is.same y before.0.0 before.0.1)
]
out-false p x vs (AtMost y v) less out is true' = omega (arith, out.1, true', is.same y out.0.0 out.0.1)

-- a clause of which each literal is
pub all_out-leaves : (p : Project) (x : ℕ) (vs : List ℕ) (clause : List Literal) → IsAllOut p x vs clause → LeavesOut p x vs clause
all_out-leaves p x vs clause out less is some = out-false p x vs some.0 less (out some.0 some.1) is some.2

-- so no solution is less, where it holds
pub none-by_clause : (q : Problem) (p : Project) (x : ℕ) (vs : List ℕ) (given clause : List Literal) → p ≡ q.network → given ≡ clause → Holds q clause → IsAllOut p x vs given → NoneIsLessBy q x vs
none-by_clause q p x vs given clause same is holds out starts capacities found less =
    let here : IsAllOut q.network x vs clause = subst (λ (r : Project). IsAllOut r x vs clause) same (subst (IsAllOut p x vs) is out) in
    all_out-leaves q.network x vs clause here (values q.terms starts capacities) less (holds starts capacities found)

abbrev no_literal : Literal
no_literal = AtLeast 0 0

-- the first n literals of a clause are out
abbrev pub AreOutBelow : Project → ℕ → List ℕ → List Literal → ℕ → Type 0
AreOutBelow p x vs clause n = (j : ℕ) → j < n → IsOut p x vs (slice_index_or clause j no_literal)

module _ (p : Project) (x : ℕ) (vs : List ℕ) (clause : List Literal) where
  -- and one more
  pub out-step : (n : ℕ) (l : Literal) → AreOutBelow p x vs clause n → n < length clause → l ≡ slice_index_or clause n l → IsOut p x vs l → AreOutBelow p x vs clause (n + 1)
  out-step n l h place is out j m = elim (cases_lt j n) [
    | inl before ↦ h j before
    | inr here ↦
        let e : j ≡ n = omega (arith, m, here) in
        let at : slice_index_or clause j no_literal ≡ l = ap (λ i. slice_index_or clause i no_literal) e ∙ sym (get_or_read clause n l place is no_literal) in
        subst (IsOut p x vs) (sym at) out
  ]

  -- all are
  pub out-end : (n : ℕ) → AreOutBelow p x vs clause n → length clause ≤ n → IsAllOut p x vs clause
  out-end n h all l has =
      let at : slice_index_or clause has.0 no_literal ≡ l = get_or_default clause has.0 no_literal l has.1 ∙ has.2 in
      subst (IsOut p x vs) at (h has.0 (omega (arith, all, has.1)))

  -- one is not
  pub out-broken : (n : ℕ) (l : Literal) → n < length clause → l ≡ slice_index_or clause n l → (IsOut p x vs l → ⊥) → IsAllOut p x vs clause → ⊥
  out-broken n l place is not all = not (all l (n, place, sym is))
