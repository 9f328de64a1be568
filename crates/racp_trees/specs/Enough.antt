-- Contracts of private functions: boxes of capacity vectors, in which one that is above each block is looked for.
use Rattle.std.specs.Prelude.{◌≡◌, ℕ, ◌+◌, ◌<◌, ◌≤◌, min, List, ◌++◌, length, slice_index, slice_index_or, Contains, Option, Some, None, Vec}
use Rattle.std.specs.Global.{Global}
use Rattle.racp_model.specs.Project.{Project}
use Rattle.racp_model.specs.Terms.{Terms, AreTermsOf, IsBefore}
use Rattle.racp_trees.specs.declared.claim.Claim.{Claim}
use Rattle.racp_trees.specs.declared.parts.Part.{Part}

-- in each of n places, no number is above the one of another list
abbrev pub IsAtMost : ℕ → List ℕ → List ℕ → Type 0
IsAtMost n v w = (k : ℕ) → k < n → slice_index v k ≤ slice_index w k

-- some block is at or above a vector
abbrev pub IsBelowSome : ℕ → List (Vec ℕ Global) → List ℕ → Type 0
IsBelowSome n blocks v = (block : Vec ℕ Global) × Contains blocks block × IsAtMost n v block.items

-- each vector up to the roofs that stands before the capacities is at most that of some block
abbrev pub AreEnoughBlocks : Project → Terms → List ℕ → List ℕ → List (Vec ℕ Global) → Type 0
AreEnoughBlocks p terms roofs capacities blocks =
    (v : List ℕ) → length v ≡ p.resources → IsAtMost p.resources v roofs → IsBefore terms v capacities → IsBelowSome p.resources blocks v

-- a capacity vector up to the roofs that stands before the capacities, and that no block is at or above
pub record IsGap (p : Project) (terms : Terms) (roofs capacities : List ℕ) (blocks : List (Vec ℕ Global)) (low : List ℕ) : Type 0 where
  pub places : length low ≡ p.resources
  pub within : IsAtMost p.resources low roofs
  pub before : IsBefore terms low capacities
  pub above : IsBelowSome p.resources blocks low → ⊥

-- a claim's terms are those of the network, and it has a roof and a capacity for each resource
pub record IsClaim (c : Claim) : Type 0 where
  pub terms : AreTermsOf c.net.now c.order.now
  pub roofs : length c.roofs.now ≡ c.net.now.resources
  pub capacities : length c.capacities.now ≡ c.net.now.resources

-- such a vector, or none if the blocks are enough
abbrev pub IsGapAnswer : Claim → List (Vec ℕ Global) → Option (Vec ℕ Global) → Type 0
IsGapAnswer c blocks (Some low) = IsGap c.net.now c.order.now c.roofs.now c.capacities.now blocks low.items
IsGapAnswer c blocks None = AreEnoughBlocks c.net.now c.order.now c.roofs.now c.capacities.now blocks

-- the place of the first block at or above a vector, or none if none is
abbrev pub IsBlockAnswer : List (Vec ℕ Global) → List ℕ → Option ℕ → Type 0
IsBlockAnswer blocks v (Some k) = (k < length blocks) × ((d : Vec ℕ Global) → IsAtMost (length v) v (slice_index_or blocks k d).items)
IsBlockAnswer blocks v None = IsBelowSome (length v) blocks v → ⊥

-- the numbers before a place are cut to those of another list
pub record IsCutBefore (old most : List ℕ) (end : ℕ) (new : List ℕ) : Type 0 where
  pub places : length new ≡ length old
  pub before : (q : ℕ) → q < end → slice_index new q ≡ min (slice_index old q) (slice_index most q)
  pub after : (q : ℕ) → end ≤ q → slice_index new q ≡ slice_index old q

-- the part of a box in which place k is the first above a block
pub record IsPartAt (n : ℕ) (low high block : List ℕ) (k : ℕ) (part : Part) : Type 0 where
  pub is_place : k < n
  pub room : slice_index block k < slice_index high k
  pub low_places : length part.low.items ≡ n
  pub high_places : length part.high.items ≡ n
  pub raised : slice_index part.low.items k ≡ slice_index block k + 1
  pub same_before : (q : ℕ) → q < k → slice_index part.low.items q ≡ slice_index low q
  pub same_after : (q : ℕ) → k < q → q < n → slice_index part.low.items q ≡ slice_index low q
  pub cut : (q : ℕ) → q < k → slice_index part.high.items q ≡ min (slice_index high q) (slice_index block q)
  pub kept : (q : ℕ) → k ≤ q → slice_index part.high.items q ≡ slice_index high q

-- some parts of a box, for the places before m
pub record AreParts (n : ℕ) (low high block : List ℕ) (m : ℕ) (parts : List Part) : Type 0 where
  pub all : (k : ℕ) → k < m → slice_index block k < slice_index high k → (part : Part) × Contains parts part × IsPartAt n low high block k part
  pub only : (part : Part) → Contains parts part → (k : ℕ) × IsPartAt n low high block k part
  pub few : length parts ≤ m

-- the parts of a box, added after others
abbrev pub ArePartsAdded : ℕ → List ℕ → List ℕ → List ℕ → List Part → List Part → Type 0
ArePartsAdded n low high block old new = (found : List Part) × (new ≡ old ++ found) × AreParts n low high block n found
