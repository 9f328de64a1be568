-- The names file of a table: a line for each name, and lines that tell how the jobs below them go together.
use Rattle.std.specs.Prelude.{ℕ, ◌+◌, ◌==◌, ◌&&◌, ◌||◌, Bool, List, [], ◌∷◌, ◌++◌, Option, Some, None, String, bytes_eq, codes, flat_map, if◌then◌else◌, length, not, replicate, slice_index, string_bytes}
use Rattle.std.specs.Global.{Global}
use Rattle.std.specs.List.{position_from}
use Rattle.std.specs.Str.{trim_end}
use Rattle.racp_tables.specs.declared.heading.Heading.{Heading}

-- whether a blank or nothing stands behind the number signs with which a name begins: these reach up to the place of another
-- sign, if there is one
abbrev pub is_blank_behind : List ℕ → Option ℕ → Bool
is_blank_behind name None = not (length name == 0)
is_blank_behind name (Some k) = not (k == 0) && (slice_index name k == 32)

-- whether a name would be read as a heading or as an end of phases: number signs with a blank or nothing behind
abbrev pub is_like_heading : List ℕ → Bool
is_like_heading name = is_blank_behind name (position_from (λ sign. not (sign == 35)) 0 name)

-- whether a name would be read as none, also not as the line above jobs that wait
abbrev pub is_no_name : List ℕ → Bool
is_no_name name = is_like_heading name || bytes_eq (trim_end name) (codes "#wait")

-- the line of a name; a blank stands before one that would be read as none
abbrev pub name_line : List ℕ → List ℕ
name_line name = (if is_no_name name then 32 ∷ [] else []) ++ name ++ 10 ∷ []

-- the title of a phase that begins, behind a blank
abbrev pub title_part : Option (String Global) → List ℕ
title_part None = []
title_part (Some title) = 32 ∷ string_bytes title

-- the line of a heading: as many number signs as its depth, and the title
abbrev pub heading_line : Heading → List ℕ
heading_line heading = replicate heading.depth 35 ++ title_part heading.title ++ 10 ∷ []

-- the same if the heading stands above the job at place k
abbrev pub line_above : ℕ → Heading → List ℕ
line_above k heading = if heading.place == k then heading_line heading else []

-- the line above the first job that waits, if that is the one at place k: it stands behind all tasks
abbrev pub wait_line : ℕ → ℕ → List ℕ
wait_line tasks k = if k == tasks then codes "#wait" ++ 10 ∷ [] else []

-- the lines of the job at place k, which is called so
abbrev pub job_lines : List Heading → ℕ → ℕ → List ℕ → List ℕ
job_lines headings tasks k name = flat_map (line_above k) headings ++ wait_line tasks k ++ name_line name

-- the lines of jobs, of which the first stands at place k
abbrev pub jobs_lines : List Heading → ℕ → ℕ → List (List ℕ) → List ℕ
jobs_lines headings tasks k [] = []
jobs_lines headings tasks k (name ∷ names) = job_lines headings tasks k name ++ jobs_lines headings tasks (k + 1) names

-- the names file of jobs and resources, which are called so
abbrev pub names_file : List Heading → ℕ → List (List ℕ) → List (List ℕ) → List ℕ
names_file headings tasks jobs resources = jobs_lines headings tasks 0 jobs ++ flat_map name_line resources
