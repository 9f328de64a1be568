-- Contracts of private functions: the heap of vectors, each with what it costs.
use Rattle.std.specs.Prelude.{◌≡◌, ◌≢◌, ◌⊎◌, ℕ, ◌<◌, List, ◌∷◌, length, slice_index, map, All}
use Rattle.std.specs.List.Sorted.{IsPermutation}
use Rattle.std.specs.declared.cmp.Ordering.{Ordering}
use Rattle.std.specs.declared.cmp.Reverse.{Reverse}
use Rattle.std.specs.Ordering.{nat_cmp, ordering_then}
use Rattle.std.specs.BinaryHeap.{IsHeap}
use Rattle.racp_model.specs.Terms.{Terms, cost, lex_cmp}
use Rattle.racp_candidates.specs.declared.entry.Entry.{Entry}
use Rattle.racp_candidates.specs.Box.{ArePrices}
use Rattle.racp_candidates.specs.Vectors.{terms_of, IsFrontier}

-- the vectors of entries
unfoldable pub vectors_in : List (Reverse Entry) → List (List ℕ)
vectors_in entries = map (λ entry. entry.0.units.items) entries

-- each entry says what its vector costs
abbrev pub ArePriced : Terms → List (Reverse Entry) → Type 0
ArePriced terms entries = All (λ entry. entry.0.cost ≡ cost terms entry.0.units.items) entries

-- entries of a heap are compared the other way round, since the greatest of a heap comes first
abbrev pub entry_cmp : Reverse Entry → Reverse Entry → Ordering
entry_cmp a b = ordering_then (nat_cmp b.0.cost a.0.cost) (lex_cmp b.0.units.items a.0.units.items)

-- a vector was put among entries
pub record IsEntered (prices owned units : List ℕ) (old new : List (Reverse Entry)) : Type 0 where
  pub moved : IsPermutation (units ∷ vectors_in old) (vectors_in new)
  pub priced : ArePriced (terms_of prices owned) old → ArePriced (terms_of prices owned) new
  pub ordered : IsHeap entry_cmp old → IsHeap entry_cmp new

-- the last place at which a vector is not at its floor, or the first place
pub record IsLastRaised (floors units : List ℕ) (place : ℕ) : Type 0 where
  pub at_floors : (k : ℕ) → place < k → k < length floors → slice_index units k ≡ slice_index floors k
  pub raised : (place ≡ 0) ⊎ ((place < length floors) × (slice_index units place ≢ slice_index floors place))

-- a heap of the vectors of a frontier
pub record IsFrontierHeap (prices owned floors roofs : List ℕ) (entries : List (Reverse Entry)) : Type 0 where
  pub are_prices : ArePrices prices owned
  pub floor_places : length prices ≡ length floors
  pub roof_places : length roofs ≡ length floors
  pub frontier : IsFrontier (terms_of prices owned) floors roofs (vectors_in entries)
  pub priced : ArePriced (terms_of prices owned) entries
  pub ordered : IsHeap entry_cmp entries
