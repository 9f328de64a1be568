-- Contracts of private functions: those that search for minimal delaying alternatives. Of the active jobs some are
-- chosen to go, some are kept, of which only the loads are known, and the others are undecided.
use Rattle.std.specs.Prelude.{◌≡◌, ◌⊎◌, ℕ, ◌+◌, ◌<◌, ◌≤◌, Bool, MatchBool, List, [], ◌∷◌, ◌++◌, length, slice_index, All, Contains, AllPairs, min, Option, Some, None}
use Rattle.std.specs.List.Sorted.{IsStrictlyIncreasing}
use Rattle.racp_model.specs.Project.{Project, place, request, IsNumber}
use Rattle.racp_model.specs.Terms.{IsLexBefore}
use Rattle.racp_delay.specs.Alternatives.{Splits, load}
use Rattle.racp_delay.specs.declared.choosing.Choice.{Choice}
use Rattle.racp_model.specs.Limits.{most_load}

-- loads that fit the capacities
abbrev pub AreWithin : Project → List ℕ → (ℕ → ℕ) → Type 0
AreWithin p capacities loads = (k : ℕ) → k < p.resources → loads k ≤ slice_index capacities k

-- one job more could run with these loads
abbrev pub OneMoreRuns : Project → List ℕ → (ℕ → ℕ) → ℕ → Type 0
OneMoreRuns p capacities loads job = (k : ℕ) → k < p.resources →
    loads k + request p (place job) k ≤ slice_index capacities k

-- one job more has room beside these loads, of each resource that it requests
abbrev pub HasRoom : Project → List ℕ → (ℕ → ℕ) → ℕ → Type 0
HasRoom p capacities loads job =
    (k : ℕ) → k < p.resources → 0 < request p (place job) k →
    loads k + request p (place job) k ≤ slice_index capacities k

-- some of these jobs have
abbrev pub SomeHaveRoom : Project → List ℕ → (ℕ → ℕ) → List ℕ → Type 0
SomeHaveRoom p capacities loads jobs = (i : ℕ) × (i < length jobs) × HasRoom p capacities loads (slice_index jobs i)

-- what is true of each job of a list
abbrev pub Each : (ℕ → Type 0) → List ℕ → Type 0
Each P [] = Unit {0}
Each P (job ∷ jobs) = P job × Each P jobs

-- the loads of the kept, and of the jobs that stay beside them
abbrev pub with_load : Project → (ℕ → ℕ) → List ℕ → ℕ → ℕ
with_load p kept stay k = kept k + load p k stay

-- the undecided are numbers of jobs, rising, and what is left is what the kept and the undecided request together of
-- each resource, which is small
pub record IsChoice (c : Choice) : Type 0 where
  pub units : length c.capacities.now ≡ c.net.now.resources
  pub jobs : All (IsNumber (length c.net.now.jobs)) c.undecided.now
  pub rises : IsStrictlyIncreasing c.undecided.now
  pub sums : (k : ℕ) → k < c.net.now.resources →
      slice_index c.left k ≡ with_load c.net.now (slice_index c.kept) c.undecided.now k
  pub small : (k : ℕ) → k < c.net.now.resources → slice_index c.left k ≤ most_load

-- a choice in the same project among others than before
pub record IsAmong (c : Choice) (others : List ℕ) (new : Choice) : Type 0 where
  pub choice : IsChoice new
  pub net : new.net.now ≡ c.net.now
  pub capacities : new.capacities.now ≡ c.capacities.now
  pub undecided : new.undecided.now ≡ others

-- if a job goes: the same are kept
pub record IsWhereGoes (c : Choice) (others : List ℕ) (new : Choice) : Type 0 where
  pub among : IsAmong c others new
  pub kept : new.kept ≡ c.kept

-- if a job stays: it is kept too, and as much is left
pub record IsWhereStays (c : Choice) (job : ℕ) (others : List ℕ) (new : Choice) : Type 0 where
  pub among : IsAmong c others new
  pub kept : (k : ℕ) → k < c.net.now.resources →
      slice_index new.kept k ≡ slice_index c.kept k + request c.net.now (place job) k
  pub left : new.left ≡ c.left

-- a job cannot run with the kept
abbrev pub CannotStay : Choice → ℕ → Type 0
CannotStay c job =
    AreWithin c.net.now c.capacities.now (λ k. slice_index c.kept k + request c.net.now (place job) k) → ⊥

-- those that stay can run with the kept, and none that goes could stay with them
pub record IsTight (p : Project) (capacities : List ℕ) (kept : ℕ → ℕ) (gone stay : List ℕ) : Type 0 where
  pub runs : AreWithin p capacities (with_load p kept stay)
  pub tight : Each (λ job. OneMoreRuns p capacities (with_load p kept stay) job → ⊥) gone

-- all alternatives in which the chosen go and the kept stay, each once, in lexicographic order
pub record AreFound (p : Project) (capacities : List ℕ) (kept : ℕ → ℕ) (chosen undecided : List ℕ)
    (lists : List (List ℕ)) : Type 0 where
  pub all : (gone stay : List ℕ) → Splits undecided gone stay → IsTight p capacities kept (chosen ++ gone) stay →
      Contains lists (chosen ++ gone)
  pub only : (list : List ℕ) → Contains lists list →
      (gone : List ℕ) × (stay : List ℕ) × Splits undecided gone stay × (list ≡ chosen ++ gone) ×
      IsTight p capacities kept (chosen ++ gone) stay
  pub in_order : AllPairs IsLexBefore lists

-- these, added at the end of a list
abbrev pub AreAdded : Project → List ℕ → (ℕ → ℕ) → List ℕ → List ℕ → List (List ℕ) → List (List ℕ) → Type 0
AreAdded p capacities kept chosen undecided old new =
    (found : List (List ℕ)) × (new ≡ old ++ found) × AreFound p capacities kept chosen undecided found

-- jobs of the undecided that may go beside the chosen, if the others stay
abbrev pub IsExtension : Project → List ℕ → (ℕ → ℕ) → List ℕ → List ℕ → List ℕ → Type 0
IsExtension p capacities kept chosen undecided more =
    (stay : List ℕ) × Splits undecided more stay × IsTight p capacities kept (chosen ++ more) stay

-- the first of the extensions that are looked for
pub record IsFirstExtension (p : Project) (capacities : List ℕ) (kept : ℕ → ℕ) (chosen undecided : List ℕ)
    (IsWanted : List ℕ → Type 0) (more : List ℕ) : Type 0 where
  pub extends : IsExtension p capacities kept chosen undecided more
  pub wanted : IsWanted more
  pub first : (other : List ℕ) → IsExtension p capacities kept chosen undecided other → IsWanted other →
      (other ≡ more) ⊎ IsLexBefore more other

-- there is none
abbrev pub HasNoExtension : Project → List ℕ → (ℕ → ℕ) → List ℕ → List ℕ → (List ℕ → Type 0) → Type 0
HasNoExtension p capacities kept chosen undecided IsWanted =
    (other : List ℕ) → IsExtension p capacities kept chosen undecided other → IsWanted other → ⊥

-- what extending the chosen answers: they are extended to the first, or they are as before and there is none
abbrev pub IsExtended : Project → List ℕ → (ℕ → ℕ) → List ℕ → List ℕ → (List ℕ → Type 0) → Bool → List ℕ → Type 0
IsExtended p capacities kept chosen undecided IsWanted found new = MatchBool found
    ((more : List ℕ) × (new ≡ chosen ++ more) × IsFirstExtension p capacities kept chosen undecided IsWanted more)
    ((new ≡ chosen) × HasNoExtension p capacities kept chosen undecided IsWanted)

-- any list is wanted
abbrev pub IsAny : List ℕ → Type 0
IsAny more = Unit {0}

-- what some jobs request together of each resource, each small
pub record AreLoads (p : Project) (jobs loads : List ℕ) : Type 0 where
  pub sums : (k : ℕ) → k < p.resources → slice_index loads k ≡ load p k jobs
  pub small : (k : ℕ) → k < p.resources → slice_index loads k ≤ most_load

-- some jobs split into a list of free ones and the others, which are not free, with what these request together of each
-- resource, and what all do
pub record IsSplitByFree (p : Project) (jobs free list kept left : List ℕ) : Type 0 where
  pub others : List ℕ
  pub splits : Splits jobs list others
  pub go : (job : ℕ) → Contains list job → Contains free job
  pub stay : (job : ℕ) → Contains others job → Contains free job → ⊥
  pub kept_sums : (k : ℕ) → k < p.resources → slice_index kept k ≡ load p k others
  pub left_sums : AreLoads p jobs left

-- the earlier of a time that may be known and another time
abbrev pub IsEarlier : Option ℕ → ℕ → Option ℕ → Type 0
IsEarlier (Some known) time result = result ≡ Some (min known time)
IsEarlier None time result = result ≡ Some time
