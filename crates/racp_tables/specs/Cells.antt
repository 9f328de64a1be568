-- What the cells of a row say.
use Rattle.std.specs.Prelude.{ℕ, ◌==◌, Bool, if◌then◌else◌, List, [], length, map, drop, chars, decimal, encode_utf8_all, Option, Some, None}
use Rattle.std.specs.List.{list_all}
use Rattle.std.specs.Str.{trim}
use Rattle.std.specs.Char.{is_control}
use Rattle.csv.specs.Records.{field_at}
use Rattle.racp_tables.specs.Amounts.{amount_said, units_of}
use Rattle.racp_tables.specs.declared.columns.Column.{Column}

-- the text of a cell without the blanks around it; none if there is no cell
abbrev pub trimmed : Option (List ℕ) → List ℕ
trimmed None = []
trimmed (Some cell) = trim cell

-- the text of the cell at a place
abbrev pub cell_at : List (List ℕ) → ℕ → List ℕ
cell_at cells place = trimmed (field_at cells place)

-- the text of the cell of a column that may be missing
abbrev pub cell_of : List (List ℕ) → Option ℕ → List ℕ
cell_of cells None = []
cell_of cells (Some place) = cell_at cells place

-- whether there are only blanks from the cell at a place on
abbrev pub is_blank_from : ℕ → List (List ℕ) → Bool
is_blank_from place cells = list_all (λ cell. length (trim cell) == 0) (drop place cells)

-- a text with a blank in place of each control character
abbrev pub plain : List ℕ → List ℕ
plain text = encode_utf8_all (map (λ letter. if is_control letter then 32 else letter) (chars text))

-- what a row is called in others: what the column says, or its number
abbrev pub id_said : List (List ℕ) → Option ℕ → ℕ → List ℕ
id_said cells None number = decimal number
id_said cells (Some place) number = cell_at cells place

-- how many units of a resource a cell says: up to 10,000, and none if it is empty
abbrev pub need_said : List ℕ → Option ℕ
need_said cell = if length cell == 0 then Some 0 else units_of (amount_said cell) 100 10000

-- how many units of the resource of a column the cells of a row say
abbrev pub need_at : List (List ℕ) → Column → Option ℕ
need_at cells column = need_said (cell_at cells column.place)
