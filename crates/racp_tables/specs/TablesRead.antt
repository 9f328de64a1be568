-- What a table has of the cells that it was read from.
use Rattle.std.specs.Prelude.{ℕ, List, ◌∷◌}
use Rattle.racp_tables.specs.CellRows.{AreRowsOf}
use Rattle.racp_tables.specs.Records.{AreRecordsOf, with_text}
use Rattle.racp_tables.specs.Rosters.{roster_said}
use Rattle.racp_tables.specs.Rows.{IsTableOf}
use Rattle.racp_tables.specs.declared.columns.Columns.{Columns}
use Rattle.racp_tables.specs.declared.outline.Outline.{Outline}
use Rattle.racp_tables.specs.declared.reading.Dating.{Dating}
use Rattle.racp_tables.specs.declared.reading.Scale.{Scale}
use Rattle.racp_tables.specs.declared.row.Row.{Row}
use Rattle.racp_tables.specs.declared.table.Table.{Table}

-- a table has the jobs and pairs of rows that are what the records below its titles say, those with some text, for some columns;
-- rows are parts of each other by some outline
abbrev pub IsTableBelow : Scale → Dating → List (List (List ℕ)) → Table → Type 0
IsTableBelow scale dating records table =
    (columns : Columns) × (outline : Outline) × (parents : List ℕ) × (rows : List Row)
    × AreRowsOf columns (roster_said columns.assigned parents (with_text records)) parents scale dating 1 (with_text records) rows
    × IsTableOf outline parents scale rows table

-- the records are those of some sheet: titles and rows between separators
abbrev pub IsTableRead : Scale → Dating → Table → Type 0
IsTableRead scale dating table =
    (separator : ℕ) × (sheet : List ℕ) × (head : List (List ℕ)) × (records : List (List (List ℕ)))
    × AreRecordsOf separator sheet (head ∷ records) × IsTableBelow scale dating records table
