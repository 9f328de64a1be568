-- Contracts of private functions: due times that are lowered to late starts.
use Rattle.std.specs.Prelude.{◌≡◌, ℕ, ◌+◌, ◌<◌, ◌≤◌, List, length, slice_index, Bool, true, false}
use Rattle.racp_model.specs.Project.{Project, duration}
use Rattle.racp_model.specs.Schedule.{KeepsPrecedence}

-- each start is its due time less the duration; or one would be below 0
abbrev pub TakesDurations : Project → List ℕ → List ℕ → Bool → Type 0
TakesDurations p due starts true = (length starts ≡ length due) ×
    ((i : ℕ) → i < length p.jobs → slice_index starts i + duration p i ≡ slice_index due i)
TakesDurations p due starts false = (i : ℕ) × (i < length p.jobs) × (slice_index due i < duration p i)

-- no start is above its upper bound
abbrev pub IsAtMost : Project → List ℕ → List ℕ → Type 0
IsAtMost p upper starts = (i : ℕ) → i < length p.jobs → slice_index starts i ≤ slice_index upper i

-- of the starts within the upper bounds that keep precedence, in each place the greatest
pub record AreGreatestWithin (p : Project) (upper starts : List ℕ) : Type 0 where
  pub places : length starts ≡ length upper
  pub below : IsAtMost p upper starts
  pub precedence : KeepsPrecedence p starts
  pub greatest : (others : List ℕ) → IsAtMost p upper others → KeepsPrecedence p others → (i : ℕ) → i < length p.jobs →
      slice_index others i ≤ slice_index starts i

-- what lowering upper bounds along the relation answers: the greatest starts within them that keep precedence, or that
-- there are none
abbrev pub IsLowered : Project → List ℕ → List ℕ → Bool → Type 0
IsLowered p upper starts true = AreGreatestWithin p upper starts
IsLowered p upper starts false = (others : List ℕ) → IsAtMost p upper others → KeepsPrecedence p others → ⊥
