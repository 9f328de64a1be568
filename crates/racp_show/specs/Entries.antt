-- The rows of an outline as the code keeps them.
use Rattle.std.specs.Prelude.{ℕ, ◌||◌, Bool, map, nat_le, string_bytes, ⊤}
use Rattle.racp_model.specs.Project.{IsNumber}
use Rattle.racp_show.specs.Outlines.{Line, Outlined}
use Rattle.racp_show.specs.Outlines.Line.{PhaseLine, TaskLine}
use Rattle.racp_show.specs.declared.entry.Entry.{Entry}
use Rattle.racp_show.specs.declared.entry.Entry.TheVariants.{Heading, Bar}
use Rattle.racp_show.specs.declared.outline.Outline.{Outline}

-- the row that an entry is
abbrev pub line_of : Entry → Line
line_of (Heading depth title) = PhaseLine depth (string_bytes title)
line_of (Bar depth job) = TaskLine depth job

-- what an outline tells
abbrev pub outlined : Outline → Outlined
outlined outline = record {
  rows = map line_of outline.rows.items;
  begun = map line_of outline.begun.items;
  depth = outline.depth;
  tasks = outline.tasks;
  waits = outline.is_waiting;
}

-- a job is no task: jobs wait here, or so many jobs are tasks already
abbrev pub is_full : ℕ → Outlined → Bool
is_full jobs o = o.waits || nat_le jobs o.tasks

-- a row is no task, or that of one of so many jobs
abbrev pub IsWithin : ℕ → Line → Type 0
IsWithin jobs (PhaseLine depth title) = ⊤
IsWithin jobs (TaskLine depth number) = IsNumber jobs number
