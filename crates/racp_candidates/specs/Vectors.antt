-- Contracts of private functions: vectors between floors and roofs in the order of vectors, and their children.
use Rattle.std.specs.Prelude.{◌≡◌, ◌↔◌, ◌≢◌, ℕ, ◌+◌, ◌-◌, ◌<◌, ◌≤◌, ◌||◌, Bool, true, nat_lt, List, [], ◌∷◌, ◌++◌, length, slice_index, set, map, Contains, AllPairs, All, Option, Some, None, Result, Ok, Err}
use Rattle.std.specs.List.{filter, list_any, list_all}
use Rattle.std.specs.declared.cmp.Ordering.{Ordering}
use Rattle.std.specs.declared.cmp.Ordering.TheVariants.{Less, Equal, Greater}
use Rattle.std.specs.Ordering.{is_le}
use Rattle.std.specs.declared.alloc.Global.{Global}
use Rattle.std.specs.Prelude.{Vec}
use Rattle.std.specs.declared.alloc.AllocError.{AllocError}
use Rattle.racp_model.specs.Terms.{Terms, vector_cmp, IsBefore}
use Rattle.racp_model.specs.Window.{Bounds}
use Rattle.racp_model.specs.declared.question.Question.{Question}
use Rattle.racp_candidates.specs.Questions.{numbers_between, question_of}
use Rattle.racp_candidates.specs.Box.{IsBetween}

-- the terms of which vectors take prices and owned units alone
abbrev pub terms_of : (prices owned : List ℕ) → Terms
terms_of prices owned = record { deadline = 0; prices = prices; owned = owned; ceilings = None; release = []; due = [] }

-- the vectors between floors and roofs, each once and in order
pub record AreVectorsInOrder (terms : Terms) (floors roofs : List ℕ) (vectors : List (List ℕ)) : Type 0 where
  pub rising : AllPairs (IsBefore terms) vectors
  pub members : (vector : List ℕ) → Contains vectors vector ↔ IsBetween floors roofs vector

-- the first vector was taken off a list, or the list is empty; if memory was refused, the list is as before
abbrev pub IsNextVector : List (List ℕ) → List (List ℕ) → Result (Option (Vec ℕ Global)) AllocError → Type 0
IsNextVector before after (Ok (Some vector)) = before ≡ vector.items ∷ after
IsNextVector before after (Ok None) = (before ≡ []) × (after ≡ [])
IsNextVector before after (Err _) = after ≡ before

-- a child of a vector has one unit more at a place after which the vector is at its floors
pub record IsChildAt (floors roofs vector : List ℕ) (place : ℕ) (child : List ℕ) : Type 0 where
  pub is_place : place < length floors
  pub at_floors : (k : ℕ) → place < k → k < length floors → slice_index vector k ≡ slice_index floors k
  pub room : slice_index vector place < slice_index roofs place
  pub is : child ≡ set vector place (slice_index vector place + 1)

abbrev pub IsChild : (floors roofs vector child : List ℕ) → Type 0
IsChild floors roofs vector child = (place : ℕ) × IsChildAt floors roofs vector place child

-- all children of a vector, each once
pub record AreChildren (floors roofs vector : List ℕ) (children : List (List ℕ)) : Type 0 where
  pub once : AllPairs (λ a b. a ≢ b) children
  pub members : (child : List ℕ) → Contains children child ↔ IsChild floors roofs vector child

-- each vector that begins with one of some numbers and goes on as one of some vectors
unfoldable pub all_begun : List ℕ → List (List ℕ) → List (List ℕ)
all_begun [] rest = []
all_begun (x ∷ xs) rest = map (λ vector. x ∷ vector) rest ++ all_begun xs rest

-- all vectors between floors and roofs
unfoldable pub all_between : (floors roofs : List ℕ) → List (List ℕ)
all_between [] roofs = [] ∷ []
all_between (floor ∷ floors) [] = []
all_between (floor ∷ floors) (roof ∷ roofs) = all_begun (numbers_between floor roof) (all_between floors roofs)

-- a vector put into vectors in order, by how it compares with the first of them
abbrev pub put_by : Ordering → List ℕ → List ℕ → List (List ℕ) → List (List ℕ) → List (List ℕ)
put_by Less vector first rest more = vector ∷ (first ∷ rest)
put_by Equal vector first rest more = first ∷ rest
put_by Greater vector first rest more = first ∷ more

unfoldable pub put_in : Terms → List ℕ → List (List ℕ) → List (List ℕ)
put_in terms vector [] = vector ∷ []
put_in terms vector (first ∷ rest) = put_by (vector_cmp terms vector first) vector first rest (put_in terms vector rest)

-- vectors in order
unfoldable pub in_order : Terms → List (List ℕ) → List (List ℕ)
in_order terms [] = []
in_order terms (vector ∷ rest) = put_in terms vector (in_order terms rest)

-- whether one of some vectors stands at or before a vector
unfoldable pub is_reached : Terms → List (List ℕ) → List ℕ → Bool
is_reached terms vectors vector = list_any (λ one. is_le (vector_cmp terms one vector)) vectors

-- the vectors between floors and roofs that one of some vectors stands at or before
unfoldable pub to_come : Terms → (floors roofs : List ℕ) → List (List ℕ) → List (List ℕ)
to_come terms floors roofs vectors = filter (is_reached terms vectors) (in_order terms (all_between floors roofs))

-- one vector leads to another by adding units, the places after the first that is not done yet being at their floors
pub record LeadsTo (floors start vector : List ℕ) : Type 0 where
  pub below : (k : ℕ) → k < length floors → slice_index start k ≤ slice_index vector k
  pub at_floors : (j k : ℕ) → j < k → k < length floors → slice_index start j < slice_index vector j →
      slice_index start k ≡ slice_index floors k

-- a frontier: vectors, each once, that lead to each vector that they reach; what they are children of stands before all
pub record IsFrontier (terms : Terms) (floors roofs : List ℕ) (vectors : List (List ℕ)) : Type 0 where
  pub between : All (IsBetween floors roofs) vectors
  pub once : AllPairs (λ a b. a ≢ b) vectors
  pub leads : (vector : List ℕ) → IsBetween floors roofs vector → is_reached terms vectors vector ≡ true →
      (start : List ℕ) × Contains vectors start × LeadsTo floors start vector
  pub parents : (parent child other : List ℕ) → IsBetween floors roofs parent → Contains vectors child →
      IsChild floors roofs parent child → Contains vectors other → IsBefore terms parent other

-- whether a vector is above its floor of the resource with this number
abbrev pub is_above : (floors vector : List ℕ) → ℕ → Bool
is_above floors vector resource = nat_lt (slice_index floors (resource - 1)) (slice_index vector (resource - 1))

-- whether of each pair it is above one floor
unfoldable pub is_above_pairs : (floors : List ℕ) → (pairs : List (ℕ × ℕ)) → List ℕ → Bool
is_above_pairs floors pairs vector =
    list_all (λ pair. is_above floors vector pair.0 || is_above floors vector pair.1) pairs

-- the vectors that no pair excludes
unfoldable pub vectors_above : (floors : List ℕ) → (pairs : List (ℕ × ℕ)) → List (List ℕ) → List (List ℕ)
vectors_above floors pairs vectors = filter (is_above_pairs floors pairs) vectors

-- their questions
unfoldable pub box_questions : (floors : List ℕ) → (pairs : List (ℕ × ℕ)) → Bounds → List (List ℕ) → List Question
box_questions floors pairs window vectors =
    map (λ vector. question_of vector window) (vectors_above floors pairs vectors)

-- each vector has a place for each floor
abbrev pub HavePlaces : (floors : List ℕ) → List (List ℕ) → Type 0
HavePlaces floors vectors = All (λ vector. length vector ≡ length floors) vectors
