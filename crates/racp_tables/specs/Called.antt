-- The tasks that words name.
use Rattle.std.specs.Prelude.{ℕ, ◌+◌, ◌==◌, Bool, false, ◌&&◌, if◌then◌else◌, nat_le, nat_lt, List, length, drop, bytes_eq, string_bytes, position, Option, Some, None}
use Rattle.std.specs.List.{list_any}
use Rattle.std.specs.Str.{trim}
use Rattle.racp_tables.specs.Amounts.{whole_number}
use Rattle.racp_tables.specs.Pieces.{parts_at}
use Rattle.racp_tables.specs.declared.named.Named.{Named}
use Rattle.racp_tables.specs.declared.named.Named.TheVariants as task
use Rattle.racp_tables.specs.declared.row.Row.{Row}

-- whether a row has this id; whether its task has this name
abbrev pub has_id : List ℕ → Row → Bool
has_id word row = bytes_eq (string_bytes row.id) word

abbrev pub has_name : List ℕ → Row → Bool
has_name word row = bytes_eq (string_bytes row.name) word

-- the only task of a name, of which the first stands at a place
abbrev pub only_named : List Row → List ℕ → Option ℕ → Named
only_named rows word (Some place) = if list_any (has_name word) (drop (place + 1) rows) then task.Several else task.One place
only_named rows word None = task.None

-- the task at a place, or else something other
abbrev pub task_or : Option ℕ → Named → Named
task_or (Some place) other = task.One place
task_or None other = other

-- the place of the first task with this id; no word is none
abbrev pub place_of_id : List Row → List ℕ → Option ℕ
place_of_id rows word = if length word == 0 then None else position (has_id word) rows

-- the task that a word names: with this id, or else the only one of this name
abbrev pub task_named : List Row → List ℕ → Named
task_named rows word = task_or (place_of_id rows word) (only_named rows word (position (has_name word) rows))

-- two numbers, if the first is the lower one
abbrev pub rising : Option ℕ → Option ℕ → Option (ℕ × ℕ)
rising None last = None
rising (Some first) None = None
rising (Some first) (Some last) = if nat_lt first last then Some (first, last) else None

-- the numbers from one id to another
abbrev pub ids_from : List Row → List ℕ → List ℕ → Option (ℕ × ℕ)
ids_from rows front back =
    if list_any (has_id front) rows && list_any (has_id back) rows then rising (whole_number front) (whole_number back) else None

abbrev pub ids_between : List Row → Option (List ℕ × List ℕ) → Option (ℕ × ℕ)
ids_between rows (Some parts) = ids_from rows (trim parts.0) (trim parts.1)
ids_between rows None = None

-- the numbers between which a word such as 1-4 names tasks
abbrev pub range_named : List Row → List ℕ → Option (ℕ × ℕ)
range_named rows word = ids_between rows (parts_at 45 word)

-- whether a number is in a range; whether the id of a row is
abbrev pub is_in : ℕ × ℕ → Option ℕ → Bool
is_in range (Some id) = nat_le range.0 id && nat_le id range.1
is_in range None = false

abbrev pub is_in_range : ℕ × ℕ → Row → Bool
is_in_range range row = is_in range (whole_number (string_bytes row.id))
