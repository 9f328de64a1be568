-- Texts of clauses with their derivations, which show what all capacities that are enough cost at least.
use Rattle.std.specs.Prelude.{◌≡◌, ℕ, ◌≤◌, ◌&&◌, if◌then◌else◌, List, [], ◌∷◌, Contains, Any, bytes_eq, codes, Option, Some, None}
use Rattle.std.specs.List.{slice_split}
use Rattle.racp_model.specs.Project.{Project}
use Rattle.racp_model.specs.Terms.{Terms}
use Rattle.racp_model.specs.Window.{Bounds}
use Rattle.racp_text.specs.Cuts.{is_line_feed}
use Rattle.racp_clauses.specs.Solutions.{cost_place}
use Rattle.racp_clauses.specs.declared.literal.Literal.{Literal}
use Rattle.racp_clauses.specs.declared.literal.Literal.TheVariants.{AtLeast, AtMost}
use Rattle.racp_derivations.specs.Words.{◌>>=◌, first_word, behind_word, number_of}
use Rattle.racp_derivations.specs.Checking.{Checked, clauses_of, at_first}
use Rattle.racp_derivations.specs.Texts.{IsOrderRoot}

-- the number of a line `at least N`
unfoldable pub least_on : List ℕ → Option ℕ
least_on line =
    if bytes_eq (first_word line) (codes "at") && bytes_eq (first_word (behind_word line)) (codes "least")
    then number_of (behind_word (behind_word line)) else None

-- a bound that is told, and clauses
pub record Bounded : Type 0 where
  pub least : ℕ
  pub clauses : List (List Literal)

abbrev pub told_bound : ℕ → List (List Literal) → Bounded
told_bound least clauses = record { least = least; clauses = clauses }

-- the bound that the first of some lines tells, and the clauses of the others
abbrev pub bounded_of : Project → Terms → Checked → List (List ℕ) → Option Bounded
bounded_of p terms c [] = None
bounded_of p terms c (line ∷ more) = do
  least ← least_on line
  clauses ← clauses_of p terms c more
  Some (told_bound least clauses)

-- the same of lines of which the first is `proof 2`
abbrev pub bounded_behind : Project → Terms → Checked → List (List ℕ) → Option Bounded
bounded_behind p terms c [] = None
bounded_behind p terms c (line ∷ more) = if bytes_eq line (codes "proof 2") then bounded_of p terms c more else None

-- the bound that a text tells, and its clauses, each of which follows by its steps; or none if the text is not so
unfoldable pub bounded_in : Project → Terms → Checked → List ℕ → Option Bounded
bounded_in p terms c text = bounded_behind p terms c (slice_split is_line_feed text)

-- a literal says that the cost is at least so much, or more
abbrev pub SaysLeast : Project → ℕ → Literal → Type 0
SaysLeast p least (AtLeast x v) = (x ≡ cost_place p) × (least ≤ v)
SaysLeast p least (AtMost x v) = ⊥

-- each literal of a clause does: the clause leaves out all that costs less
abbrev pub LeavesOutLess : Project → ℕ → List Literal → Type 0
LeavesOutLess p least clause = (l : Literal) → Contains clause l → SaysLeast p least l

-- a text shows from root bounds that the cost is at least so much: it says so, its clauses follow, and one of them leaves
-- out all that costs less
pub record ShowsLeastIn (p : Project) (terms : Terms) (root : Bounds) (least : ℕ) (text : List ℕ) : Type 0 where
  pub clauses : List (List Literal)
  pub follow : bounded_in p terms (at_first root) text ≡ Some (told_bound least clauses)
  pub out : Any (LeavesOutLess p least) clauses

-- it does so from the root bounds of the order
pub record IsBoundText (p : Project) (terms : Terms) (least : ℕ) (text : List ℕ) : Type 0 where
  pub root : Bounds
  pub is_root : IsOrderRoot p terms root
  pub shows : ShowsLeastIn p terms root least text

-- the bound that a text shows from root bounds, or that it shows none
abbrev pub IsLeastIn : Project → Terms → Bounds → List ℕ → Option ℕ → Type 0
IsLeastIn p terms root text (Some least) = ShowsLeastIn p terms root least text
IsLeastIn p terms root text None = (least : ℕ) → ShowsLeastIn p terms root least text → ⊥

-- the bound that it shows of the order, or that it shows none
abbrev pub IsLeastByText : Project → Terms → List ℕ → Option ℕ → Type 0
IsLeastByText p terms text (Some least) = IsBoundText p terms least text
IsLeastByText p terms text None = (least : ℕ) → IsBoundText p terms least text → ⊥
