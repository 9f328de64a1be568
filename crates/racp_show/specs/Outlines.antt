-- Which jobs are tasks, and in which phases they stand, as a names file tells.
use Rattle.std.specs.Prelude.{◌≡◌, ℕ, zero, suc, ◌+◌, ◌-◌, ◌||◌, Bool, List, [], ◌∷◌, ◌++◌, false, fold, if◌then◌else◌, length, min, nat_le, nat_lt, true}
use Rattle.std.specs.List.{take_while}
use Rattle.racp_model.specs.Project.{Project}
use Rattle.racp_show.specs.Called.{printed_lines}
use Rattle.racp_show.specs.Lines.{hashes, is_end, is_heading, is_wait, title_of}

-- a row of a chart: a phase that begins, with its title, or the task with a number. The depth says in how many phases it stands
pub data Line : Type 0 where
  PhaseLine : (depth : ℕ) (title : List ℕ) → Line
  TaskLine : (depth number : ℕ) → Line

abbrev pub depth_of : Line → ℕ
depth_of (PhaseLine depth title) = depth
depth_of (TaskLine depth number) = depth

-- what the lines down to one tell: the rows, the phases that have begun and have no task yet, in how many phases a task
-- stands here, how many tasks there are, and whether jobs wait from here on
pub record Outlined : Type 0 where
  pub rows : List Line
  pub begun : List Line
  pub depth : ℕ
  pub tasks : ℕ
  pub waits : Bool

-- before the first line
abbrev pub nothing : Outlined
nothing = record { rows = []; begun = []; depth = 0; tasks = 0; waits = false }

-- of phases, each of which stands in the one before it, those in which one of this depth stands
abbrev pub outside : ℕ → List Line → List Line
outside depth lines = take_while (λ line. nat_lt (depth_of line) depth) lines

-- the phases from this depth on end
abbrev pub ended : ℕ → Outlined → Outlined
ended depth o = record o { begun = outside depth o.begun; depth = min o.depth depth }

-- a phase begins
abbrev pub headed : ℕ → List ℕ → Outlined → Outlined
headed depth title o = record o { begun = outside depth o.begun ++ PhaseLine depth title ∷ []; depth = depth + 1 }

-- a name of a job is that of a task, unless jobs wait here: the phases that have begun are shown above it
abbrev pub named : ℕ → Outlined → Outlined
named jobs o = if o.waits || nat_le jobs o.tasks then o else record o {
  rows = o.rows ++ (o.begun ++ TaskLine o.depth (o.tasks + 1) ∷ []);
  begun = [];
  tasks = o.tasks + 1;
}

-- what one more line tells
abbrev pub with_line : ℕ → Outlined → List ℕ → Outlined
with_line jobs o line =
    if is_wait line then record o { waits = true }
    else (if is_end line then ended (hashes line - 1) o
    else (if is_heading line then headed (hashes line - 1) (title_of line) o else named jobs o))

-- so many more jobs that have no line
abbrev pub with_more : ℕ → ℕ → Outlined → Outlined
with_more jobs zero o = o
with_more jobs (suc more) o = named jobs (with_more jobs more o)

-- the outline of so many jobs, by the text of a names file: a job without a line is a task, unless jobs wait behind all lines
abbrev pub outline_of : ℕ → List ℕ → Outlined
outline_of jobs text = with_more jobs jobs (fold (with_line jobs) nothing (printed_lines text))

-- an outline of the jobs of a project, by some names file
abbrev pub IsOutlineOf : Project → Outlined → Type 0
IsOutlineOf p outline = (text : List ℕ) × (outline ≡ outline_of (length p.jobs) text)
