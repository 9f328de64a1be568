-- Capacity vectors between floors and roofs, and the box: those of them that no refuted pair of resources excludes.
use Rattle.std.specs.Prelude.{◌≡◌, ◌↔◌, ◌⊎◌, ℕ, ◌<◌, ◌≤◌, List, length, slice_index, Contains, AllPairs, All}
use Rattle.racp_model.specs.Project.{number}
use Rattle.racp_model.specs.Terms.{Terms, IsBefore}
use Rattle.racp_model.specs.Window.{Bounds}
use Rattle.racp_model.specs.declared.question.Question.{Question}
use Rattle.racp_candidates.specs.Questions.{question_of}

-- prices and owned units by resource: of at most 16, with prices in the range of an order
pub record ArePrices (prices owned : List ℕ) : Type 0 where
  pub resources : length prices ≤ 16
  pub price_range : All (λ x. x ≤ 1000000) prices
  pub owned_places : length owned ≡ length prices

-- no floor is above its roof
abbrev pub AreBounds : (floors roofs : List ℕ) → Type 0
AreBounds floors roofs = (k : ℕ) → k < length floors → slice_index floors k ≤ slice_index roofs k

-- a vector between floors and roofs
pub record IsBetween (floors roofs vector : List ℕ) : Type 0 where
  pub places : length vector ≡ length floors
  pub above : (k : ℕ) → k < length floors → slice_index floors k ≤ slice_index vector k
  pub below : (k : ℕ) → k < length floors → slice_index vector k ≤ slice_index roofs k

-- of each refuted pair, which names two resources, the vector is above the floor of one
abbrev pub IsAbovePairs : (floors : List ℕ) → (pairs : List (ℕ × ℕ)) → List ℕ → Type 0
IsAbovePairs floors pairs vector =
    (k l : ℕ) → Contains pairs (number k, number l) →
    (slice_index floors k < slice_index vector k) ⊎ (slice_index floors l < slice_index vector l)

-- a vector of the box of floors, roofs and refuted pairs
pub record IsInBox (floors roofs : List ℕ) (pairs : List (ℕ × ℕ)) (vector : List ℕ) : Type 0 where
  pub between : IsBetween floors roofs vector
  pub above_pairs : IsAbovePairs floors pairs vector

-- the questions of the box: one for each of its vectors, in the order of vectors, each with the same window
pub record AreBoxQuestions (terms : Terms) (floors roofs : List ℕ) (pairs : List (ℕ × ℕ)) (window : Bounds)
    (questions : List Question) : Type 0 where
  pub rising : AllPairs (λ a b. IsBefore terms a.capacities b.capacities) questions
  pub windows : All (λ question. question.window ≡ window) questions
  pub members : (vector : List ℕ) → Contains questions (question_of vector window) ↔ IsInBox floors roofs pairs vector
