-- What a certificate of a plan shows.
use Rattle.std.specs.Prelude.{ℕ, ◌≤◌, List}
use Rattle.racp_model.specs.Project.{Project}
use Rattle.racp_model.specs.Path.{IsCriticalLength}
use Rattle.racp_model.specs.Terms.{Terms, IsBefore, release_of}
use Rattle.racp_model.specs.Plan.{IsEnough}

-- no capacities that are enough stand before these
abbrev pub HasNoneEnoughBefore : Project → Terms → List ℕ → Type 0
HasNoneEnoughBefore p terms capacities = (enough : List ℕ) → IsEnough p terms enough → IsBefore terms enough capacities → ⊥

-- the critical length is at most the deadline
abbrev pub IsLongEnough : Project → Terms → Type 0
IsLongEnough p terms = (critical : ℕ) → IsCriticalLength p (release_of terms) critical → critical ≤ terms.deadline
