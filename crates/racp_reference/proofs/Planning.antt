-- What planning answers, from what was found on the way.
use Rattle.std.proofs.Common.{ℕ, List, Some, None}
use Rattle.racp_model.specs.Project.{Project}
use Rattle.racp_model.specs.Terms.{Terms, AreTermsOf, release_of, due_of}
use Rattle.racp_model.specs.Plan.{IsPlan, IsOverCeilings}
use Rattle.racp_model.specs.Window.{Bounds, IsRootWindow}
use Rattle.racp_model.proofs.lemmas.Cuts.{cut}
use Rattle.racp_reference.specs.declared.choice.Choice.{Choice}
use Rattle.racp_prices.specs.Units.{AreMostUnits}
use Rattle.racp_reference.specs.Choices.{IsCheapest}
use Rattle.racp_cpm.proofs.lemmas.Rooted.{least-fit}
use Rattle.racp_reference.proofs.Cutting.{enough-candidate, least-enough}

-- the cheapest choice is the plan
pub plan_is : (p : Project) (terms : Terms) (window : Bounds) (most : List ℕ) (choice : Choice) → AreTermsOf p terms → IsRootWindow p (release_of terms) (due_of terms) window → AreMostUnits p terms most →
    IsCheapest p terms window most (Some choice) → IsPlan p terms choice.capacities choice.starts
plan_is p terms window most choice t root units h = record {
  vector = least-enough p terms window most t root units choice.capacities h.0;
  schedule = least-fit p (release_of terms) (due_of terms) window choice.capacities choice.starts root h.1.starts;
}

-- where there is none, no capacities are enough
pub over_ceilings : (p : Project) (terms : Terms) (window : Bounds) (most : List ℕ) → AreTermsOf p terms → IsRootWindow p (release_of terms) (due_of terms) window → AreMostUnits p terms most →
    IsCheapest p terms window most None → IsOverCeilings p terms
over_ceilings p terms window most t root units h = record {
  in_time = (window.lower, root.early, root.ends);
  none = λ capacities enough. h (cut p capacities) (enough-candidate p terms window most t root units capacities enough);
}
