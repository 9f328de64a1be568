-- What is known at each stage of the search for a plan by questions.
use Rattle.std.specs.Prelude.{◌≡◌, ℕ, ◌<◌, ◌≤◌, List, slice_index, Option, Some, None, IfSome, Bool, true, false}
use Rattle.racp_model.specs.Project.{Project}
use Rattle.racp_model.specs.Terms.{Terms}
use Rattle.racp_model.specs.Plan.{NoneIsEnough}
use Rattle.racp_model.specs.Window.{Bounds, IsYes, IsNo}
use Rattle.racp_prices.specs.Units.{AreMostUnits}
use Rattle.racp_candidates.specs.Box.{AreBounds}
use Rattle.racp_found.specs.Told.{AreFloorsOfEnough}
use Rattle.racp_bounds.specs.Floors.{AreFloors}
use Rattle.racp_bounds.specs.Sharp.{IsSharp}
use Rattle.racp_bounds.specs.declared.sharp.Sharp.{Sharp}
use Rattle.racp_by_questions.specs.Stops.{IsNotAfterEnough, ceiling_series}
use Rattle.racp_by_questions.specs.declared.bounds.Ends.{Ends}

-- the first floors, none above its roof, and roofs within the ceilings; the floors are those of all that is enough
pub record AreFirstEnds (p : Project) (terms : Terms) (root : Bounds) (ends : Ends) : Type 0 where
  pub lowest : AreFloors p root terms.deadline ends.floors
  pub most : AreMostUnits p terms ends.roofs
  pub bounds : AreBounds ends.floors ends.roofs
  pub least : AreFloorsOfEnough p terms ends.floors

-- the first floors, and roofs within the ceilings that admit
pub record AreFloorsAndRoofs (p : Project) (terms : Terms) (root : Bounds) (floors roofs : List ℕ) : Type 0 where
  pub lowest : AreFloors p root terms.deadline floors
  pub most : AreMostUnits p terms roofs
  pub bounds : AreBounds floors roofs
  pub yes : IsYes p roofs root

-- these, after a series for the ceilings, where there are such; or none where no capacities are enough
abbrev pub IsBounded : Project → Terms → Bounds → (answered : ℕ) → Option Ends → Type 0
IsBounded p terms root answered (Some ends) = AreFloorsAndRoofs p terms root ends.floors ends.roofs ×
    (answered ≡ ceiling_series terms)
IsBounded p terms root answered None = NoneIsEnough p terms

-- floors that are sharpened, and pairs that they refute, from some first floors on
pub record AreSharpFloorsAndRoofs (p : Project) (terms : Terms) (root : Bounds) (sharp : Sharp) (roofs : List ℕ)
    : Type 0 where
  pub first : List ℕ
  pub ends : AreFloorsAndRoofs p terms root first roofs
  pub sharp_are : IsSharp p root first roofs sharp

-- capacities that are told where the vectors of the box are asked: none that are enough stand before them, they are at or above these
-- floors, and they are what the asker told, if it told any
pub record IsStoppedInBox (p : Project) (terms : Terms) (floors : List ℕ) (told : Option (List ℕ))
    (capacities : List ℕ) : Type 0 where
  pub none : IsNotAfterEnough p terms capacities
  pub above : (k : ℕ) → k < p.resources → slice_index floors k ≤ slice_index capacities k
  pub as_told : IfSome told (λ reached. capacities ≡ reached)

-- whether some starts in the window answer
abbrev pub IsYesOrNo : Project → List ℕ → Bounds → Bool → Type 0
IsYesOrNo p capacities window true = IsYes p capacities window
IsYesOrNo p capacities window false = IsNo p capacities window
