-- The next clause is none behind the one that the list has for a variable.
use Rattle.std.proofs.Common.{◌≡◌, ◌∙◌, ℕ, ◌+◌, ◌<◌, ◌≤◌, List, length, [], slice_index, slice_index_or, inl, inr, arith, ap, sym, subst}
use Rattle.std.proofs.lemmas.Bool.{cases_lt}
use Rattle.std.proofs.lemmas.List.{get_or_read}
use Rattle.racp_model.specs.Project.{Project}
use Rattle.racp_model.specs.Window.{Bounds}
use Rattle.racp_clauses.specs.declared.literal.Literal.{Literal}
use Rattle.racp_clauses.specs.Least.{turn}
use Rattle.racp_clauses.specs.Tests.{AreAllOut, IsAllOut, clause_at, IsPlaceOf}

-- no clause that the list has for a variable of a later turn stands before this one
abbrev pub IsReady : Project → Bounds → List ℕ → ℕ → List (List Literal) → (t next : ℕ) → Type 0
IsReady p root vs turns clauses t next = (all : AreAllOut p root vs turns clauses) → (s : ℕ) → t ≤ s → s < turns → next ≤ all.at s

-- no clause from a place on up to another is all out
abbrev pub AreNoneOut : Project → ℕ → List ℕ → List (List Literal) → (from n : ℕ) → Type 0
AreNoneOut p x vs clauses from n = (j : ℕ) → from ≤ j → j < n → IsAllOut p x vs (clause_at clauses j) → ⊥

-- nor is one more
pub none-step : (p : Project) (x : ℕ) (vs : List ℕ) (clauses : List (List Literal)) (from n : ℕ) (clause : List Literal) → AreNoneOut p x vs clauses from n → n < length clauses →
    clause ≡ slice_index_or clauses n clause → (IsAllOut p x vs clause → ⊥) → AreNoneOut p x vs clauses from (n + 1)
none-step p x vs clauses from n clause none place is not j above below out = elim (cases_lt j n) [
  | inl before ↦ none j above before out
  | inr here ↦
      let e : j ≡ n = omega (arith, below, here) in
      not (subst (IsAllOut p x vs) (ap (clause_at clauses) e ∙ sym (get_or_read clauses n clause place is [])) out)
]

module _ (p : Project) (root : Bounds) (vs : List ℕ) (turns : ℕ) (clauses : List (List Literal)) (t next x : ℕ) (ready : IsReady p root vs turns clauses t next) (l : t < turns) where
  -- where the root bounds do not, the one that the list has does
  pub had : (all : AreAllOut p root vs turns clauses) → IsPlaceOf p t x → slice_index root.lower x < slice_index vs x →
      (next ≤ all.at t) × (all.at t < length clauses) × IsAllOut p x vs (clause_at clauses (all.at t))
  had all is less =
      let here : turn p x ≡ t = is.has in
      elim (all.out x is.place (omega (arith, here, l))) [
        | inl low ↦ absurd (omega (arith, low, less))
        | inr by' ↦ (ready all t (omega arith) l, subst (λ s. all.at s < length clauses) here by'.0, subst (λ s. IsAllOut p x vs (clause_at clauses (all.at s))) here by'.1)
      ]

  -- the next one stands no later than that
  pub ready-some : (at : ℕ) → IsPlaceOf p t x → slice_index root.lower x < slice_index vs x →
      ((j : ℕ) → next ≤ j → j < length clauses → IsAllOut p x vs (clause_at clauses j) → at ≤ j) → IsReady p root vs turns clauses (t + 1) at
  ready-some at is less first all s later m =
      let h = had all is less in
      omega (arith, first (all.at t) h.0 h.1 h.2, all.rises t s (omega (arith, later)) m)

  -- without a next one there is none
  pub ready-none : IsPlaceOf p t x → slice_index root.lower x < slice_index vs x →
      ((j : ℕ) → next ≤ j → j < length clauses → IsAllOut p x vs (clause_at clauses j) → ⊥) → AreAllOut p root vs turns clauses → ⊥
  ready-none is less none all = let h = had all is less in none (all.at t) h.0 h.1 h.2

  -- where the root bounds do, it stays
  pub ready-on : IsReady p root vs turns clauses (t + 1) next
  ready-on all s later m = ready all s (omega (arith, later)) m
