-- The boxes that are left while a vector above each block is looked for.
use Rattle.std.specs.Prelude.{◌⊎◌, ◌≡◌, ℕ, ◌+◌, ◌-◌, ◌^◌, List, [], ◌∷◌, length, slice_index, Contains, Vec}
use Rattle.std.specs.Global.{Global}
use Rattle.racp_model.specs.Project.{Project}
use Rattle.racp_model.specs.Schedule.{sum_below}
use Rattle.racp_model.specs.Terms.{Terms, IsBefore}
use Rattle.racp_trees.specs.declared.parts.Part.{Part}
use Rattle.racp_trees.specs.Enough.{IsAtMost, IsBelowSome}

-- a box of vectors up to the roofs
pub record IsPart (n : ℕ) (roofs : List ℕ) (part : Part) : Type 0 where
  pub low_places : length part.low.items ≡ n
  pub high_places : length part.high.items ≡ n
  pub low_within : IsAtMost n part.low.items roofs
  pub high_within : IsAtMost n part.high.items roofs

-- a vector in a box
pub record IsIn (n : ℕ) (part : Part) (v : List ℕ) : Type 0 where
  pub above : IsAtMost n part.low.items v
  pub below : IsAtMost n v part.high.items

-- a vector is below some block, or in a box that is left
abbrev pub IsLeft : ℕ → List (Vec ℕ Global) → List Part → List ℕ → Type 0
IsLeft n blocks parts v = IsBelowSome n blocks v ⊎ ((part : Part) × Contains parts part × IsIn n part v)

-- the boxes that are left: each vector that matters is below some block or in one of them
pub record IsLooking (p : Project) (terms : Terms) (roofs capacities : List ℕ) (blocks : List (Vec ℕ Global)) (parts : List Part) : Type 0 where
  pub each : (part : Part) → Contains parts part → IsPart p.resources roofs part
  pub left : (v : List ℕ) → length v ≡ p.resources → IsAtMost p.resources v roofs → IsBefore terms v capacities → IsLeft p.resources blocks parts v

-- how far the least vector of a box is below the roofs
abbrev pub slack : ℕ → List ℕ → Part → ℕ
slack n roofs part = sum_below n (λ k. slice_index roofs k - slice_index part.low.items k)

-- a bound on the number of boxes that can still come
unfoldable pub weights : ℕ → List ℕ → List Part → ℕ
weights n roofs [] = 0
weights n roofs (part ∷ parts) = 17 ^ slack n roofs part + weights n roofs parts
