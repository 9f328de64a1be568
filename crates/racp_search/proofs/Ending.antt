-- How a search ends that came to a halt.
use Rattle.std.proofs.Common.{◌≡◌, ℕ, List, Contains, refl, sym, subst, Bool, Option, Result, Ok, Err, IfOk, IsTrue, IsFalse}
use Rattle.std.specs.declared.alloc.AllocError.{AllocError}
use Rattle.racp_model.specs.Project.{Project}
use Rattle.racp_model.specs.Window.{Bounds}
use Rattle.racp_model.proofs.lemmas.Relations.{no_member}
use Rattle.racp_search.specs.Truth.{IsFoundOrLeft}
use Rattle.racp_search.specs.DepthFirst.{SearchFrame}
use Rattle.racp_search.specs.Ends.{IsEnd, IsEndOf, IsFinished, IsHalt, IsHaltOf}
use Rattle.racp_search.specs.declared.ended.Ended.{Ended}
use Rattle.racp_search.specs.declared.halt.Halt.{Halt}
use Rattle.racp_search.specs.declared.halt.Halt.TheVariants.{Found, Nothing, Left}
use Rattle.racp_search.proofs.Entering.{end_nothing}

module _ (p : Project) (capacities : List ℕ) (window : Bounds) (quantum : Option ℕ) (nodes : ℕ) (quiet : Bool) (stack : List SearchFrame) where
  abbrev Halts : Halt → Type 0
  Halts = IsHalt p capacities window quantum nodes quiet stack

  -- where it does
  pub halt_of : (halt : Result Halt AllocError) → IfOk halt Halts → IfOk halt (IsHaltOf p capacities window stack)
  halt_of (Ok halt) h = h.place
  halt_of (Err error) h = tt

  end_of : (halt : Halt) (ended : Ended) → Halts halt → IsEndOf p capacities window halt ended → IsEnd p capacities window quantum nodes ended
  end_of (Found starts) ended h e = record {
    is_true = subst (λ (found : Option (List ℕ)). IsFoundOrLeft p capacities window found ended.rest.items) (sym e.0) (h.place, e.1);
    searched = λ a. h.after;
    stopped = λ a. absurd (cc (a, e.2));
    spent = λ a b. absurd (b e.1);
    all = λ a b. e.1;
    higher = λ a part c. absurd (no_member part (subst (λ (xs : List Bounds). Contains xs part) e.1 c));
  }
  end_of Nothing ended h e = end_nothing p capacities window quantum nodes ended h.place h.after e.0 e.1 e.2
  end_of (Left next stopped) ended h e =
      let on : IsFalse ended.stopped → IsFalse stopped = λ a. subst (λ (b : Bool). IsFalse b) e.2 a in
      record {
        is_true = subst (λ (found : Option (List ℕ)). IsFoundOrLeft p capacities window found ended.rest.items) (sym e.0) e.1.left;
        searched = λ a. h.after.searched (on a);
        stopped = λ a. (e.0, e.1.some);
        spent = λ a b. h.after.spent (on a);
        all = λ a none. absurd (cc (none, h.after.spent (on a)));
        higher = λ a. e.1.higher (h.after.higher a);
      }

  not_stopped : (halt : Halt) (ended : Ended) → Halts halt → IsEndOf p capacities window halt ended → IsTrue quiet → IsFalse ended.stopped
  not_stopped (Found starts) ended h e q = subst (λ (b : Bool). IsFalse b) (sym e.2) refl
  not_stopped Nothing ended h e q = subst (λ (b : Bool). IsFalse b) (sym e.2) refl
  not_stopped (Left next stopped) ended h e q = subst (λ (b : Bool). IsFalse b) (sym e.2) (h.after.told q)

  -- how it ends
  pub finished : (halt : Result Halt AllocError) (end : Result Ended AllocError) → IfOk halt Halts → IfOk end (IsFinished p capacities window halt) → IfOk end (IsEnd p capacities window quantum nodes)
  finished halt (Err error) h e = tt
  finished (Ok halt) (Ok ended) h e = end_of halt ended h e
  finished (Err error) (Ok ended) h e = absurd e

  -- and it is not stopped where the stop is quiet
  pub finished_quiet : (halt : Result Halt AllocError) (end : Result Ended AllocError) → IfOk halt Halts → IfOk end (IsFinished p capacities window halt) → IfOk end (λ ended. IsTrue quiet → IsFalse ended.stopped)
  finished_quiet halt (Err error) h e = tt
  finished_quiet (Ok halt) (Ok ended) h e = not_stopped halt ended h e
  finished_quiet (Err error) (Ok ended) h e = absurd e

-- the same, where the halt is told by what it is
module _ (p : Project) (capacities : List ℕ) (window : Bounds) (told : Result Halt AllocError) (at is : Halt) (came : told ≡ Ok at) (same : at ≡ is) where
  pub finished_at : (ended : Ended) → IsEndOf p capacities window is ended → IsFinished p capacities window told ended
  finished_at ended h =
      subst (λ (halt : Result Halt AllocError). IsFinished p capacities window halt ended) (sym came) (subst (λ (halt : Halt). IsEndOf p capacities window halt ended) (sym same) h)

  pub finished_there : (end : Result Ended AllocError) → IfOk end (IsEndOf p capacities window is) → IfOk end (IsFinished p capacities window told)
  finished_there (Ok ended) h = finished_at ended h
  finished_there (Err error) h = tt
