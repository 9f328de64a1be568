-- Texts of clauses with their derivations, which show that a plan is the plan of its order.
use Rattle.std.specs.Prelude.{◌≡◌, ℕ, ◌+◌, List, [], ◌∷◌, replicate, if◌then◌else◌, bytes_eq, codes, Option, Some, None}
use Rattle.std.specs.List.{slice_split}
use Rattle.racp_model.specs.Project.{Project}
use Rattle.racp_model.specs.Terms.{Terms, release_of, due_of}
use Rattle.racp_model.specs.Window.{Bounds, IsRootWindow}
use Rattle.racp_text.specs.Cuts.{is_line_feed}
use Rattle.racp_clauses.specs.Solutions.{values, cost_place}
use Rattle.racp_clauses.specs.Roots.{IsRootOf}
use Rattle.racp_clauses.specs.declared.literal.Literal.{Literal}
use Rattle.racp_plan.specs.Fitting.{AreFitting}
use Rattle.racp_clauses.specs.Tests.{AreAllOut}
use Rattle.racp_derivations.specs.Checking.{Checked, clauses_of, at_first}

-- the root bounds of an order whose floors are 0
pub record IsOrderRoot (p : Project) (terms : Terms) (root : Bounds) : Type 0 where
  pub window : Bounds
  pub is_window : IsRootWindow p (release_of terms) (due_of terms) window
  pub is : IsRootOf p terms window (replicate p.resources 0) root

-- the clauses of lines of which the first is `proof 2`
abbrev pub clauses_behind : Project → Terms → Checked → List (List ℕ) → Option (List (List Literal))
clauses_behind p terms c [] = None
clauses_behind p terms c (line ∷ more) = if bytes_eq line (codes "proof 2") then clauses_of p terms c more else None

-- the clauses of a text, each of which follows by its steps; or none if the text is not so
unfoldable pub clauses_in : Project → Terms → Checked → List ℕ → Option (List (List Literal))
clauses_in p terms c text = clauses_behind p terms c (slice_split is_line_feed text)

-- a text shows that capacities and starts are the plan of an order, from root bounds: they fit, its clauses follow, and
-- for each variable in turn a clause leaves out all that is less
pub record ShowsIn (p : Project) (terms : Terms) (root : Bounds) (capacities starts text : List ℕ) : Type 0 where
  pub clauses : List (List Literal)
  pub follow : clauses_in p terms (at_first root) text ≡ Some clauses
  pub fit : AreFitting p terms capacities starts
  pub out : AreAllOut p root (values terms starts capacities) (cost_place p + 1) clauses

-- it does so from the root bounds of the order
pub record IsDerivationText (p : Project) (terms : Terms) (capacities starts text : List ℕ) : Type 0 where
  pub root : Bounds
  pub is_root : IsOrderRoot p terms root
  pub shows : ShowsIn p terms root capacities starts text
