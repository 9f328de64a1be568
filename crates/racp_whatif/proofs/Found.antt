-- What was found within ceilings.
use Rattle.std.proofs.Common.{◌≡◌, ℕ, ◌<◌, inr, List, Ok, Err, Some, None, IfOk, IfSome, length, slice_index, refl}
use Rattle.std.specs.Prelude.{Result, Option}
use Rattle.racp_model.specs.Project.{Project}
use Rattle.racp_model.specs.Terms.{Terms, release_of, due_of}
use Rattle.racp_model.specs.Window.{Bounds, IsRootWindow}
use Rattle.racp_whatif.specs.Fitting.{AllWorkFits, RequestsFit}
use Rattle.racp_whatif.specs.Needs.{IsNeedAnswer}
use Rattle.racp_whatif.specs.Within.{IsAbove, IsFound}
use Rattle.racp_whatif.specs.declared.need.Need.{Need}
use Rattle.racp_whatif.proofs.Orders.{need-in_time}

module _ {E : Type 0} (p : Project) (window : Bounds) (ceilings : List ℕ) where
  -- if each request fits, a need of several jobs, or all work fits
  pub found-jointly : ((k : ℕ) → k < p.resources → RequestsFit p k (slice_index ceilings k) (length p.jobs)) → (r : Result (Option Need) E) → IfOk r (λ need. IfSome need (IsAbove p window ceilings)) →
      IfOk r (λ need. need ≡ None → (k : ℕ) → k < p.resources → AllWorkFits p window k (slice_index ceilings k) (length p.jobs)) → IfOk r (IsFound p window ceilings)
  found-jointly requests (Ok (Some need)) above none = above
  found-jointly requests (Ok None) above none = record { requests = requests; work = none refl }
  found-jointly requests (Err fault) above none = none

  -- in the root window of an order and its ceilings that is the answer
  pub answered : (terms : Terms) → IsRootWindow p (release_of terms) (due_of terms) window → terms.ceilings ≡ Some ceilings → (r : Result (Option Need) E) → IfOk r (IsFound p window ceilings) → IfOk r (IsNeedAnswer p terms)
  answered terms root are (Ok (Some need)) found = (need-in_time p terms window need root found.is, (ceilings, are, found.above))
  answered terms root are (Ok None) found = rw are (inr (inr (window, root, found)))
  answered terms root are (Err fault) found = found
