-- What the lines of a derivation text do, one after the other.
use Rattle.std.specs.Prelude.{ℕ, ◌==◌, Bool, false, nat_lt, if◌then◌else◌, List, [], ◌∷◌, ◌++◌, length, bytes_eq, codes, Option, Some, None}
use Rattle.racp_model.specs.Project.{Project}
use Rattle.racp_model.specs.Terms.{Terms}
use Rattle.racp_model.specs.Window.{Bounds}
use Rattle.racp_clauses.specs.Clauses.{Derived}
use Rattle.racp_clauses.specs.Inferences.{with_inference, with_literal, negation, by_clause}
use Rattle.racp_clauses.specs.Rules.{along_pair, of_job, of_resource, by_time_table, by_energy, by_request, by_units, by_cost}
use Rattle.racp_clauses.specs.declared.literal.Literal.{Literal}
use Rattle.racp_clauses.specs.Tests.{clause_at}
use Rattle.racp_derivations.specs.Words.{◌>>=◌, number_of}
use Rattle.racp_derivations.specs.Lines.{line_of, line_at, with_line}
use Rattle.racp_derivations.specs.declared.line.Line.{Line}
use Rattle.racp_derivations.specs.declared.line.Line.TheVariants.{Suppose, Take, Holds, Keep}
use Rattle.racp_derivations.specs.declared.line.Step.{Step}
use Rattle.racp_derivations.specs.declared.line.Step.TheVariants.{Pair, TimeTable, Energy, Request, Prices, Budget, Earlier}

-- a derivation after a step by a clause: if nothing is left it stays as it is
abbrev pub with_clause : Derived → List Literal → Derived
with_clause d clause = if d.empty then d else with_inference d (by_clause d.bounds clause)

-- a derivation after a step, if the clause that it names is an earlier one
abbrev pub stepped : Project → Terms → List (List Literal) → Derived → Step → Option Derived
stepped p terms clauses d (Pair at) = Some (along_pair p d at)
stepped p terms clauses d (TimeTable j k a b) =
    Some (with_inference d (of_job p j (of_resource p k (by_time_table p d.bounds j k a b))))
stepped p terms clauses d (Energy k a b) = Some (with_inference d (of_resource p k (by_energy p d.bounds k a b)))
stepped p terms clauses d (Request j k) = Some (with_inference d (of_job p j (of_resource p k (by_request p j k))))
stepped p terms clauses d Prices = Some (with_inference d (by_units p terms d.bounds))
stepped p terms clauses d (Budget k) = Some (with_inference d (of_resource p k (by_cost p terms d.bounds k)))
stepped p terms clauses d (Earlier at) =
    if nat_lt at (length clauses) then Some (with_clause d (clause_at clauses at)) else None

-- a derivation after a literal that its clause is to have
abbrev pub supposed : Derived → Literal → Derived
supposed d l = with_inference (with_literal d l) (negation l)

-- what was derived so far: the derivation with which each one begins, the present one, the clauses, and the lines that have
-- numbers
pub record Checked : Type 0 where
  pub base : Derived
  pub now : Derived
  pub clauses : List (List Literal)
  pub numbered : List Line

-- after a line: with a literal or by a step the present derivation goes on; if nothing is left its clause holds, and the
-- next one begins; without literals it is that with which each one begins from then on
abbrev pub after : Project → Terms → Checked → Line → Option Checked
after p terms c (Suppose l) = Some (record c { now = supposed c.now l })
after p terms c (Take s) = stepped p terms c.clauses c.now s >>= (λ d. Some (record c { now = d }))
after p terms c Holds =
    if c.now.empty then Some (record c { now = c.base; clauses = c.clauses ++ c.now.clause ∷ [] }) else None
after p terms c Keep = if length c.now.clause == 0 then Some (record c { base = c.now }) else None

-- after a number alone: it says what the line with that number says
abbrev pub after_number : Project → Terms → Checked → ℕ → Option Checked
after_number p terms c n = line_at c.numbered n >>= after p terms c

-- after a line that is spelled out, which has the next number if it has one
abbrev pub after_spelled : Project → Terms → Checked → List ℕ → Option Checked
after_spelled p terms c line = line_of p line >>= (λ l. after p terms (record c { numbered = with_line c.numbered l }) l)

-- a line is a number alone, or spelled out
abbrev pub after_either : Project → Terms → Checked → List ℕ → Option ℕ → Option Checked
after_either p terms c line (Some n) = after_number p terms c n
after_either p terms c line None = after_spelled p terms c line

abbrev pub after_line : Project → Terms → Checked → List ℕ → Option Checked
after_line p terms c line = after_either p terms c line (number_of line)

-- what stands behind the last line feed of a text is nothing
abbrev pub is_end : List (List ℕ) → Bool
is_end [] = false
is_end (line ∷ []) = length line == 0
is_end (line ∷ other ∷ more) = false

-- the clauses that hold after these lines, the last of which is `end`
abbrev pub clauses_of : Project → Terms → Checked → List (List ℕ) → Option (List (List Literal))
clauses_of p terms c [] = None
clauses_of p terms c (line ∷ more) =
    if bytes_eq line (codes "end") then (if is_end more then Some c.clauses else None)
    else after_line p terms c line >>= (λ d. clauses_of p terms d more)

-- the first derivation: of the clause without literals, from the root bounds
abbrev pub begun : Bounds → Derived
begun root = record { bounds = root; empty = false; clause = [] }

abbrev pub at_first : Bounds → Checked
at_first root = record { base = begun root; now = begun root; clauses = []; numbered = [] }
