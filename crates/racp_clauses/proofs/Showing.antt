-- The clauses that were found so far, one for each variable.
use Rattle.std.proofs.Common.{◌≡◌, ◌⊎◌, ℕ, ◌+◌, ◌<◌, ◌≤◌, List, length, slice_index, inl, inr, arith, sym, subst}
use Rattle.std.specs.Prelude.{cond, nat_lt}
use Rattle.std.proofs.lemmas.Bool.{cases_lt, cond-true, cond-false, lt-ltb, le-ltb}
use Rattle.racp_model.specs.Project.{Project}
use Rattle.racp_model.specs.Window.{Bounds}
use Rattle.racp_clauses.specs.declared.literal.Literal.{Literal}
use Rattle.racp_clauses.specs.Least.{turn}
use Rattle.racp_clauses.specs.Tests.{AreAllOut, IsAllOut, clause_at, IsPlaceOf}

-- the first so many variables are shown, by clauses up to this one
pub record AreShown (p : Project) (root : Bounds) (vs : List ℕ) (clauses : List (List Literal)) (t next : ℕ) : Type 0 where
  pub all : AreAllOut p root vs t clauses
  pub last : (s : ℕ) → s < t → all.at s ≤ next

-- none at first
pub shown-first : (p : Project) (root : Bounds) (vs : List ℕ) (clauses : List (List Literal)) (t : ℕ) → t ≡ 0 → AreShown p root vs clauses t 0
shown-first p root vs clauses t none = record {
  all = record { at = λ s. 0; rises = λ s u h l. omega arith; out = λ x l m. absurd (omega (arith, m, none)) };
  last = λ s l. omega arith;
}

module _ (p : Project) (root : Bounds) (vs : List ℕ) (clauses : List (List Literal)) (t next : ℕ) (is : AreShown p root vs clauses t next) (x : ℕ) (place : IsPlaceOf p t x) where
  module _ (new : ℕ) (later : next ≤ new) where
    abbrev at' : ℕ → ℕ
    at' s = cond (nat_lt s t) (is.all.at s) new

    at-old : (s : ℕ) → s < t → at' s ≡ is.all.at s
    at-old s l = cond-true _ (is.all.at s) new (lt-ltb s t l)

    at-new : (s : ℕ) → t ≤ s → at' s ≡ new
    at-new s l = cond-false _ (is.all.at s) new (le-ltb s t l)

    rises' : (s u : ℕ) → s ≤ u → u < t + 1 → at' s ≤ at' u
    rises' s u h l = elim (cases_lt u t) [
      | inl before ↦ omega (arith, at-old s (omega (arith, h, before)), at-old u before, is.all.rises s u h before)
      | inr here ↦ elim (cases_lt s t) [
        | inl less ↦ omega (arith, at-old s less, at-new u here, is.last s less, later)
        | inr same ↦ omega (arith, at-new s same, at-new u here)
      ]
    ]

    last' : (s : ℕ) → s < t + 1 → at' s ≤ new
    last' s l = elim (cases_lt s t) [
      | inl before ↦ omega (arith, at-old s before, is.last s before, later)
      | inr here ↦ omega (arith, at-new s here)
    ]

    abbrev Shows : ℕ → ℕ → Type 0
    Shows y at = (slice_index vs y ≤ slice_index root.lower y) ⊎ ((at < length clauses) × IsAllOut p y vs (clause_at clauses at))

    -- one more
    pub shown-more : Shows x new → AreShown p root vs clauses (t + 1) new
    shown-more shows = record {
      all = record {
        at = at';
        rises = rises';
        out = λ y l m. elim (cases_lt (turn p y) t) [
          | inl before ↦ subst (Shows y) (sym (at-old (turn p y) before)) (is.all.out y l before)
          | inr here ↦
              let same : y ≡ x = place.only y l (omega (arith, m, here)) in
              subst (Shows y) (sym (at-new (turn p y) here)) (subst (λ z. Shows z new) (sym same) shows)
        ];
      };
      last = last';
    }

  -- by the root bounds
  pub shown-root : slice_index vs x ≤ slice_index root.lower x → AreShown p root vs clauses (t + 1) next
  shown-root low = shown-more next (omega arith) (inl low)

  -- by a clause
  pub shown-clause : (new : ℕ) → (next ≤ new) × (new < length clauses) × IsAllOut p x vs (clause_at clauses new) → AreShown p root vs clauses (t + 1) new
  shown-clause new h = shown-more new h.0 (inr (h.1, h.2))
