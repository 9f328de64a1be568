-- The terms of an order: what is paid for capacities, how many there may be, and when the jobs may run.
use Rattle.std.specs.Prelude.{◌≡◌, ℕ, ◌-◌, ◌*◌, ◌<◌, ◌≤◌, min, List, length, slice_index, Option, IfSome, All}
use Rattle.racp_model.specs.Limits.{latest_time, most_units}
use Rattle.std.specs.declared.cmp.Ordering.{Ordering}
use Rattle.std.specs.declared.cmp.Ordering.TheVariants.{Less}
use Rattle.std.specs.Ordering.{nat_cmp, ordering_then}
use Rattle.std.specs.Cmp.Lexicographic.{slice_cmp}
use Rattle.racp_model.specs.Project.{Project}
use Rattle.racp_model.specs.Schedule.{sum_below}

-- an order: the deadline; for each resource the price of a unit, the units that are owned already, and perhaps the most
-- units that there may be; for each job its release and due time
pub record Terms : Type 0 where
  pub deadline : ℕ
  pub prices : List ℕ
  pub owned : List ℕ
  pub ceilings : Option (List ℕ)
  pub release : List ℕ
  pub due : List ℕ

-- the terms have an entry for each resource and each job of the project, in their ranges
pub record AreTermsOf (p : Project) (terms : Terms) : Type 0 where
  pub deadline : terms.deadline ≤ latest_time
  pub price_places : length terms.prices ≡ p.resources
  pub prices : All (λ x. x ≤ 1000000) terms.prices
  pub owned_places : length terms.owned ≡ p.resources
  pub owned : All (λ x. x ≤ most_units) terms.owned
  pub ceiling_places : IfSome terms.ceilings (λ ceilings. length ceilings ≡ p.resources)
  pub ceilings : IfSome terms.ceilings (All (λ x. x ≤ most_units))
  pub release_places : length terms.release ≡ length p.jobs
  pub release : All (λ x. x ≤ latest_time) terms.release
  pub due_places : length terms.due ≡ length p.jobs
  pub due : All (λ x. x ≤ latest_time) terms.due

-- the time from which job i may start
abbrev pub release_of : Terms → ℕ → ℕ
release_of terms i = slice_index terms.release i

-- the time by which job i has to end: its due time, or the deadline if that is earlier
abbrev pub due_of : Terms → ℕ → ℕ
due_of terms i = min (slice_index terms.due i) terms.deadline

-- what the units cost: each that is not owned already costs its price
abbrev pub cost : Terms → List ℕ → ℕ
cost terms capacities = sum_below (length terms.prices)
    (λ k. slice_index terms.prices k * (slice_index capacities k - slice_index terms.owned k))

-- no capacity is above its ceiling, if there are ceilings
abbrev pub IsWithinCeilings : Terms → List ℕ → Type 0
IsWithinCeilings terms capacities = IfSome terms.ceilings
    (λ ceilings. (k : ℕ) → k < length capacities → slice_index capacities k ≤ slice_index ceilings k)

-- lists of numbers in lexicographic order, from the first place on
abbrev pub lex_cmp : List ℕ → List ℕ → Ordering
lex_cmp = slice_cmp nat_cmp

-- one start vector is lexicographically less than another
abbrev pub IsLexBefore : List ℕ → List ℕ → Type 0
IsLexBefore a b = lex_cmp a b ≡ Less

-- capacity vectors by cost, and at equal cost in lexicographic order
abbrev pub vector_cmp : Terms → List ℕ → List ℕ → Ordering
vector_cmp terms a b = ordering_then (nat_cmp (cost terms a) (cost terms b)) (lex_cmp a b)

-- one capacity vector stands before another: it costs less, or costs the same and is lexicographically less
abbrev pub IsBefore : Terms → List ℕ → List ℕ → Type 0
IsBefore terms a b = vector_cmp terms a b ≡ Less
