-- The records that are taken of a text of rows and cells.
use Rattle.std.specs.Prelude.{ℕ, List, filter, not}
use Rattle.csv.specs.Reading.{AreRecords, default_config, strip_bom}
use Rattle.csv.specs.declared.parser.State.TheVariants as st
use Rattle.racp_tables.specs.Cells.{is_blank_from}

-- these are all records of a text whose cells stand between these letters, as `csv` reads it
abbrev pub AreRecordsOf : ℕ → List ℕ → List (List (List ℕ)) → Type 0
AreRecordsOf separator text records =
    AreRecords (record default_config { delimiter = separator }) st.StartRecord (strip_bom text) records

-- the records with some text
abbrev pub with_text : List (List (List ℕ)) → List (List (List ℕ))
with_text records = filter (λ cells. not (is_blank_from 0 cells)) records
