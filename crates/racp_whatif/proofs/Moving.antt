-- Terms with another deadline are terms.
use Rattle.std.proofs.Common.{◌∙◌, ℕ, ◌==◌, ◌≤◌, true, false, Bool, if◌then◌else◌}
use Rattle.std.proofs.lemmas.List.{length-map}
use Rattle.std.proofs.lemmas.List.Elements.{All-map, All-weaker}
use Rattle.racp_model.specs.Limits.{latest_time}
use Rattle.racp_model.specs.Project.{Project}
use Rattle.racp_model.specs.Terms.{Terms, AreTermsOf}
use Rattle.racp_whatif.specs.Changes.{moved, with_deadline}

chosen_small : (most new due : ℕ) (is_same : Bool) → new ≤ most → due ≤ most → (if is_same then new else due) ≤ most
chosen_small most new due true a b = a
chosen_small most new due false a b = b

pub deadline_terms : (p : Project) (terms : Terms) (deadline : ℕ) → deadline ≤ latest_time → AreTermsOf p terms → AreTermsOf p (with_deadline deadline terms)
deadline_terms p terms deadline small are = record {
  deadline = small;
  price_places = are.price_places;
  prices = are.prices;
  owned_places = are.owned_places;
  owned = are.owned;
  ceiling_places = are.ceiling_places;
  ceilings = are.ceilings;
  release_places = are.release_places;
  release = are.release;
  due_places = length-map terms.due (moved terms.deadline deadline) ∙ are.due_places;
  due = All-map (λ x. x ≤ latest_time) (moved terms.deadline deadline) terms.due
      (All-weaker (λ x. x ≤ latest_time) (λ x. moved terms.deadline deadline x ≤ latest_time) (λ x few. chosen_small latest_time deadline x (x == terms.deadline) small few) terms.due are.due);
}
