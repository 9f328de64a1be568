-- A plan as a table of comma-separated values.
use Rattle.std.specs.Prelude.{ℕ, ◌+◌, ◌==◌, ◌++◌, ◌∷◌, [], Bool, List, codes, flat_map, if◌then◌else◌, map, option_map, string_bytes, unwrap_or}
use Rattle.std.specs.Fmt.{decimal}
use Rattle.csv.specs.Writing.{default_writer, row_text}
use Rattle.racp_show.specs.declared.sheet.JobEntry.{JobEntry}
use Rattle.racp_show.specs.declared.sheet.ResourceEntry.{ResourceEntry}
use Rattle.racp_show.specs.declared.sheet.Sheet.{Sheet}

-- what stands above the numbers of units of a resource: its name, or its number if it has none
abbrev pub title_of : ResourceEntry → List ℕ
title_of entry =
    unwrap_or (option_map (λ name. name.now) entry.name) (codes "resource " ++ decimal entry.resource)

-- the fields of the first row: those up to the times, those of days if times are told by dates, and those behind
abbrev pub begin_titles : List (List ℕ)
begin_titles = codes "job" ∷ (codes "name" ∷ (codes "start" ∷ (codes "end" ∷ [])))

abbrev pub day_titles : Bool → List (List ℕ)
day_titles dates = if dates then codes "first day" ∷ (codes "last day" ∷ []) else []

abbrev pub rest_titles : List (List ℕ)
rest_titles = codes "duration" ∷ (codes "slack" ∷ (codes "predecessors" ∷ []))

abbrev pub fixed_titles : Bool → List (List ℕ)
fixed_titles dates = begin_titles ++ day_titles dates ++ rest_titles

abbrev pub head_fields : Bool → List ResourceEntry → List (List ℕ)
head_fields dates resources = fixed_titles dates ++ map title_of resources

-- the number at a place of some, with a semicolon before it unless it is the first
abbrev pub joined_number : ℕ → ℕ → List ℕ
joined_number place number = if place == 0 then decimal number else codes ";" ++ decimal number

-- the numbers from a place on
abbrev pub joined : ℕ → List ℕ → List ℕ
joined place [] = []
joined place (number ∷ numbers) = joined_number place number ++ joined (place + 1) numbers

-- those of a job: its number, its name or nothing if it has none, its start, its end, its first and its last day if times are
-- told by dates, its duration, its slack, the numbers of the jobs that come right before it, and what it needs of each
-- resource
abbrev pub begin_fields : JobEntry → List (List ℕ)
begin_fields entry = decimal entry.job ∷ (unwrap_or (option_map (λ name. name.now) entry.name) [] ∷
    (decimal entry.start ∷ (decimal entry.end ∷ [])))

abbrev pub day_fields : Bool → JobEntry → List (List ℕ)
day_fields dates entry =
    if dates then unwrap_or (option_map string_bytes entry.first_day) [] ∷ (unwrap_or (option_map string_bytes entry.last_day) [] ∷ [])
    else []

abbrev pub rest_fields : JobEntry → List (List ℕ)
rest_fields entry = decimal entry.duration ∷ (decimal entry.slack ∷ (joined 0 entry.predecessors.items ∷ []))

abbrev pub fixed_fields : Bool → JobEntry → List (List ℕ)
fixed_fields dates entry = begin_fields entry ++ day_fields dates entry ++ rest_fields entry

abbrev pub job_fields : Bool → JobEntry → List (List ℕ)
job_fields dates entry = fixed_fields dates entry ++ map decimal entry.requests.items

-- the row of a job
abbrev pub job_row : Bool → JobEntry → List ℕ
job_row dates entry = row_text default_writer (job_fields dates entry)

-- the table of a sheet: the first row, and a row for each job
abbrev pub table_text : Sheet → List ℕ
table_text sheet =
    row_text default_writer (head_fields sheet.has_dates sheet.resources.items)
    ++ flat_map (job_row sheet.has_dates) sheet.jobs.items
