-- What cells say of resources by their names, as `Masons[3];Crane`.
use Rattle.std.specs.Prelude.{ℕ, ◌==◌, Bool, if◌then◌else◌, List, [], ◌∷◌, length, map, codes, flat_map, sum_by, bytes_eq, string_bytes, Option, Some, None, unwrap_or, is_some}
use Rattle.std.specs.List.{list_all}
use Rattle.std.specs.Str.{trim}
use Rattle.racp_tables.specs.Amounts.{amount_said, units_of}
use Rattle.racp_tables.specs.Cells.{plain}
use Rattle.racp_tables.specs.Pieces.{between, parts_at_last, without_last}
use Rattle.racp_tables.specs.declared.assigned.Assigned.{Assigned}
use Rattle.racp_tables.specs.declared.mention.Mention.{Mention}

-- a name and the units behind it, one if none stand in brackets
abbrev pub named : List ℕ → Option (List ℕ × List ℕ) → List ℕ × List ℕ
named word (Some parts) = (trim parts.0, trim parts.1)
named word None = (word, codes "1")

-- what stands before an opening bracket and behind it, if there is a text before the closing one
abbrev pub bracketed : Option (List ℕ) → Option (List ℕ × List ℕ)
bracketed (Some front) = parts_at_last 91 front
bracketed None = None

-- a word as a name and units, which may stand in brackets behind it
abbrev pub name_and_units : List ℕ → List ℕ × List ℕ
name_and_units word = named word (bracketed (without_last 93 word))

-- the name of a resource and its units as a word tells them; nothing if there is no name
abbrev pub mentioned : List ℕ × List ℕ → List (List ℕ × List ℕ)
mentioned word = if length word.0 == 0 then [] else ((plain word.0, word.1) ∷ [])

-- what the words of a cell tell, which stand between semicolons and commas
abbrev pub word_mentions : List ℕ → List (List ℕ × List ℕ)
word_mentions word = mentioned (name_and_units (trim word))

abbrev pub mentions_in : List ℕ → List (List ℕ × List ℕ)
mentions_in part = flat_map word_mentions (between 44 part)

abbrev pub mentions : List ℕ → List (List ℕ × List ℕ)
mentions cell = flat_map mentions_in (between 59 cell)

-- a percentage of a unit, or a number of units
abbrev pub share : List ℕ → Option (List ℕ) → Option ℕ
share units (Some percent) = units_of (amount_said (trim percent)) 10000 10000
share units None = units_of (amount_said units) 100 10000

-- what was told of a resource, with its units as a number
abbrev pub with_units : List ℕ × List ℕ → List ℕ × Option ℕ
with_units mention = (mention.0, share mention.1 (without_last 37 mention.1))

-- what a cell says: resources, and how many units of each
abbrev pub assigned_said : List ℕ → List (List ℕ × Option ℕ)
assigned_said cell = map with_units (mentions cell)

-- what was read of a word
abbrev pub mention_of : Mention → List ℕ × List ℕ
mention_of mention = (string_bytes mention.name, string_bytes mention.units)

abbrev pub told : Assigned → List ℕ × Option ℕ
told assigned = (string_bytes assigned.name, Some assigned.units)

-- how many units of the resource of this name a word tells, and all words together
abbrev pub units_for : List ℕ → List ℕ × Option ℕ → ℕ
units_for name word = if bytes_eq word.0 name then unwrap_or word.1 0 else 0

abbrev pub units_named : List (List ℕ × Option ℕ) → List ℕ → ℕ
units_named said name = sum_by (units_for name) said

-- the same, if each word tells its units
abbrev pub is_told : List ℕ × Option ℕ → Bool
is_told word = is_some word.1

abbrev pub all_units_named : List (List ℕ × Option ℕ) → List ℕ → Option ℕ
all_units_named said name = if list_all is_told said then Some (units_named said name) else None
