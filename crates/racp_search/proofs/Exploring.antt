-- What the finding of a search with a quantum tells.
use Rattle.std.specs.Prelude.{IfErr}
use Rattle.std.proofs.Common.{◌≡◌, ◌∙◌, inl, inr, ℕ, ◌≤◌, List, arith, refl, sym, subst, ap, Bool, true, false, Option, Some, None, Result, Ok, Err, IfOk, IfSome, IsTrue, IsFalse}
use Rattle.std.proofs.lemmas.Bool.{cases_lt}
use Rattle.std.specs.declared.alloc.AllocError.{AllocError}
use Rattle.racp_model.specs.Project.{Project}
use Rattle.racp_model.specs.Window.{Bounds}
use Rattle.racp_search.specs.Truth.{SearchPiece, SearchFinding, IsExplored, IsFoundOrLeft}
use Rattle.racp_search.specs.Ends.{AllowsNone, IsEnd, finding_after, short_of, untouched}
use Rattle.racp_search.specs.declared.ended.Ended.{Ended}

-- a quantum that allows some node
some_allowed : (quantum : Option ℕ) → AllowsNone quantum false → quantum ≡ Some 0 → ⊥
some_allowed (Some most) h e = absurd (cc (h.1 (cc e)))
some_allowed None h e = absurd (cc e)

pub one_allowed : (quantum : Option ℕ) → AllowsNone quantum false → IfSome quantum (λ most. 1 ≤ most)
one_allowed (Some most) h = elim (cases_lt 0 most) [
  | inl less ↦ omega (arith, less)
  | inr none ↦ absurd (cc (h.1 (omega (arith, none))))
]
one_allowed None h = tt

-- a search that may enter no node
pub explored_none : (p : Project) (piece : SearchPiece) (quantum : Option ℕ) → AllowsNone quantum true → IsExplored p piece quantum (untouched piece)
explored_none p piece (Some most) h =
    let none : most ≡ 0 = h.0 refl in
    record {
      own = refl;
      nodes = omega arith;
      searched = λ some a b. absurd (some (ap Some none));
      idle = λ a. (refl, refl);
      short = λ a. absurd (cc a);
      stopped = λ a. absurd (cc a);
      spent = λ a b left. ap Some none;
      all = λ a b e. absurd (cc e);
      higher = λ a some part has. absurd (omega (arith, some));
    }
explored_none p piece None h = absurd (cc h)

-- what a search that ended left is true
pub true_end : (p : Project) (capacities : List ℕ) (window : Bounds) (quantum : Option ℕ) (nodes : ℕ) (end : Result Ended AllocError) → IfOk end (IsEnd p capacities window quantum nodes) →
    IfOk end (λ ended. IsFoundOrLeft p capacities window ended.found ended.rest.items)
true_end p capacities window quantum nodes (Ok ended) h = h.is_true
true_end p capacities window quantum nodes (Err error) h = tt

module _ (p : Project) (piece : SearchPiece) (quantum : Option ℕ) (nodes : ℕ) (within : IfSome quantum (λ most. nodes ≤ most)) where
  explored_after : (ended : Ended) → AllowsNone quantum false → IsEnd p piece.question.capacities piece.question.window quantum nodes ended → IsExplored p piece quantum (finding_after piece ended nodes)
  explored_after ended allows h = record {
    own = refl;
    nodes = within;
    searched = λ some a b. h.searched a;
    idle = λ e. absurd (some_allowed quantum allows e);
    short = λ a. absurd (cc a);
    stopped = h.stopped;
    spent = λ a b left. h.spent a left;
    all = λ a b e. h.all a e;
    higher = λ a some part has. h.higher some part has;
  }

  explored_short : IsExplored p piece quantum (short_of piece nodes)
  explored_short = record {
    own = refl;
    nodes = within;
    searched = λ some a b. absurd (cc b);
    idle = λ e. (refl, refl);
    short = λ a. (refl, refl);
    stopped = λ a. absurd (cc a);
    spent = λ a b. absurd (cc b);
    all = λ a b. absurd (cc b);
    higher = λ a. absurd (cc a);
  }

  -- a search that ended so
  pub explored : (end : Result Ended AllocError) (finding : SearchFinding) → AllowsNone quantum false → IfOk end (IsEnd p piece.question.capacities piece.question.window quantum nodes) →
      IfOk end (λ ended. finding ≡ finding_after piece ended nodes) → IfErr end (λ error. finding ≡ short_of piece nodes) → IsExplored p piece quantum finding
  explored (Ok ended) finding allows h ok err = subst (IsExplored p piece quantum) (sym ok) (explored_after ended allows h)
  explored (Err error) finding allows h ok err = subst (IsExplored p piece quantum) (sym err) explored_short

-- and it is not stopped where the stop is quiet
pub explored_quiet : (piece : SearchPiece) (nodes : ℕ) (quiet : Bool) (end : Result Ended AllocError) (finding : SearchFinding) → IfOk end (λ ended. IsTrue quiet → IsFalse ended.stopped) →
    IfOk end (λ ended. finding ≡ finding_after piece ended nodes) → IfErr end (λ error. finding ≡ short_of piece nodes) → IsTrue quiet → IsFalse finding.stopped
explored_quiet piece nodes quiet (Ok ended) finding h ok err q = ap (λ (f : SearchFinding). f.stopped) ok ∙ h q
explored_quiet piece nodes quiet (Err error) finding h ok err q = ap (λ (f : SearchFinding). f.stopped) err
