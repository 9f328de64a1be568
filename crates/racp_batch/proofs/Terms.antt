-- The terms of a case are terms of its network.
use Rattle.std.proofs.Common.{◌≤◌, ℕ, length, arith}
use Rattle.std.proofs.lemmas.List.{length-replicate}
use Rattle.std.proofs.lemmas.List.Elements.{All-replicate}
use Rattle.racp_model.specs.Limits.{latest_time, most_units}
use Rattle.racp_model.specs.Project.{Project}
use Rattle.racp_model.specs.Terms.{AreTermsOf}
use Rattle.racp_batch.specs.Orders.{terms_by}

pub terms_are : (p : Project) (price deadline : ℕ) → price ≤ 1000000 → deadline ≤ latest_time → AreTermsOf p (terms_by p price deadline)
terms_are p price deadline cheap early = record {
  deadline = early;
  price_places = length-replicate p.resources price;
  prices = All-replicate (λ x. x ≤ 1000000) p.resources price cheap;
  owned_places = length-replicate p.resources 0;
  owned = All-replicate (λ x. x ≤ most_units) p.resources 0 (omega arith);
  ceiling_places = tt;
  ceilings = tt;
  release_places = length-replicate (length p.jobs) 0;
  release = All-replicate (λ x. x ≤ latest_time) (length p.jobs) 0 (omega arith);
  due_places = length-replicate (length p.jobs) deadline;
  due = All-replicate (λ x. x ≤ latest_time) (length p.jobs) deadline early;
}
