-- Early and late starts, chains of the precedence relation, and the critical length (the critical path method).
use Rattle.std.specs.Prelude.{◌≡◌, ℕ, ◌+◌, ◌<◌, ◌≤◌, List, [], ◌∷◌, ◌++◌, length, slice_index, sum_by}
use Rattle.racp_model.specs.Project.{Project, duration, Precedes}
use Rattle.racp_model.specs.Schedule.{KeepsPrecedence, EndsBy}

-- each start is at or above its lower bound
abbrev pub IsAtLeast : Project → (ℕ → ℕ) → List ℕ → Type 0
IsAtLeast p lower starts = (i : ℕ) → i < length p.jobs → lower i ≤ slice_index starts i

-- the early starts: at or above the lower bounds, keeping precedence, and in each place the least that are both
pub record IsEarly (p : Project) (lower : ℕ → ℕ) (early : List ℕ) : Type 0 where
  pub places : length early ≡ length p.jobs
  pub above : IsAtLeast p lower early
  pub precedence : KeepsPrecedence p early
  pub least : (starts : List ℕ) → IsAtLeast p lower starts → KeepsPrecedence p starts → (i : ℕ) → i < length p.jobs →
      slice_index early i ≤ slice_index starts i

-- the late starts: ending by the due times, keeping precedence, and in each place the greatest that are both
pub record IsLate (p : Project) (due : ℕ → ℕ) (late : List ℕ) : Type 0 where
  pub places : length late ≡ length p.jobs
  pub ends : EndsBy p due late
  pub precedence : KeepsPrecedence p late
  pub greatest : (starts : List ℕ) → EndsBy p due starts → KeepsPrecedence p starts → (i : ℕ) → i < length p.jobs →
      slice_index starts i ≤ slice_index late i

-- no starts keep precedence and end by the due times
abbrev pub IsTooTight : Project → (ℕ → ℕ) → Type 0
IsTooTight p due = (starts : List ℕ) → EndsBy p due starts → KeepsPrecedence p starts → ⊥

-- job i is the first that ends after its due time: it does, and no job with a smaller number does
pub record IsFirstLate (p : Project) (due : ℕ → ℕ) (starts : List ℕ) (i : ℕ) : Type 0 where
  pub job : i < length p.jobs
  pub late : due i < slice_index starts i + duration p i
  pub first : (j : ℕ) → j < i → slice_index starts j + duration p j ≤ due j

-- a chain: one job or more, each of which precedes the next
abbrev pub IsChain : Project → List ℕ → Type 0
IsChain p [] = ⊥
IsChain p (i ∷ []) = i < length p.jobs
IsChain p (i ∷ (j ∷ rest)) = Precedes p i j × IsChain p (j ∷ rest)

-- a ring: a chain that leads from a job back to itself
abbrev pub HasRing : Project → Type 0
HasRing p = (i : ℕ) × (rest : List ℕ) × IsChain p (i ∷ (rest ++ i ∷ []))

-- when a chain ends at the earliest: the release time of its first job and the durations of all
abbrev pub span : Project → (ℕ → ℕ) → List ℕ → ℕ
span p release [] = 0
span p release (i ∷ rest) = release i + sum_by (duration p) (i ∷ rest)

-- the critical length: the greatest span of a chain
pub record IsCriticalLength (p : Project) (release : ℕ → ℕ) (critical : ℕ) : Type 0 where
  pub some : (chain : List ℕ) × IsChain p chain × (span p release chain ≡ critical)
  pub most : (chain : List ℕ) → IsChain p chain → span p release chain ≤ critical
