-- Contracts of private functions: the cheapest of the capacity vectors under which some starts fit.
use Rattle.std.specs.Prelude.{◌≡◌, ℕ, ◌<◌, ◌≤◌, List, length, slice_index, Option, Some, None, nat_lt, if◌then◌else◌}
use Rattle.racp_model.specs.Project.{Project}
use Rattle.racp_model.specs.Terms.{Terms, cost, IsBefore, IsLexBefore}
use Rattle.racp_model.specs.Plan.{IsLeast}
use Rattle.racp_model.specs.Window.{Bounds, Answers, IsYes, IsNo}
use Rattle.racp_reference.specs.declared.choice.Choice.{Choice}

-- capacities of at most these units, under which some starts in the window fit
pub record IsCandidate (p : Project) (window : Bounds) (most capacities : List ℕ) : Type 0 where
  pub places : length capacities ≡ length most
  pub below : (k : ℕ) → k < length most → slice_index capacities k ≤ slice_index most k
  pub yes : IsYes p capacities window

-- capacities with what they cost, and the least starts in the window that fit them
pub record IsChoice (p : Project) (terms : Terms) (window : Bounds) (choice : Choice) : Type 0 where
  pub cost : choice.cost ≡ cost terms choice.capacities
  pub starts : IsLeast IsLexBefore (Answers p choice.capacities window) choice.starts

-- the choice of these capacities, or none if no starts in the window fit them
abbrev pub IsPriced : Project → Terms → Bounds → List ℕ → Option Choice → Type 0
IsPriced p terms window capacities None = IsNo p capacities window
IsPriced p terms window capacities (Some choice) = (choice.capacities ≡ capacities) × IsChoice p terms window choice

-- the cheaper of two choices, the first if they cost the same
abbrev pub cheaper_of : Option Choice → Option Choice → Option Choice
cheaper_of best None = best
cheaper_of None (Some other) = Some other
cheaper_of (Some best) (Some other) = if nat_lt other.cost best.cost then Some other else Some best

-- the choice of the first of the candidates, by cost and then lexicographically, or none if there is no candidate
abbrev pub IsCheapest : Project → Terms → Bounds → List ℕ → Option Choice → Type 0
IsCheapest p terms window most None = (capacities : List ℕ) → IsCandidate p window most capacities → ⊥
IsCheapest p terms window most (Some choice) = IsLeast (IsBefore terms) (IsCandidate p window most) choice.capacities ×
    IsChoice p terms window choice
