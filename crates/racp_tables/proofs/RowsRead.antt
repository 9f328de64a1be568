-- Rows that are read one after another.
use Rattle.std.proofs.Common.{◌≡◌, refl, sym, ◌∙◌, ap, subst, ℕ, ◌+◌, ◌<◌, Bool, true, false, not, cond, List, [], ◌∷◌, ◌++◌, drop, get_or, length, map, append_assoc}
use Rattle.std.proofs.lemmas.List.{at_drop_more, length_push}
use Rattle.csv.specs.Records.{Row as Record, fields_of}
use Rattle.racp_tables.specs.Cells.{is_blank_from}
use Rattle.racp_tables.specs.CellRows.{AreRowsOf, IsRowAdded}
use Rattle.racp_tables.specs.Records.{with_text}
use Rattle.racp_tables.specs.declared.columns.Columns.{Columns}
use Rattle.racp_tables.specs.declared.reading.Dating.{Dating}
use Rattle.racp_tables.specs.declared.reading.Scale.{Scale}
use Rattle.racp_tables.specs.declared.row.Row.{Row}

-- what is left from a record on, by whether it is blank
left_from : (records : List Record) (i : ℕ) (next : Record) (blank : Bool) → i < length records → next ≡ get_or records i next → is_blank_from 0 (fields_of next) ≡ blank →
    with_text (map fields_of (drop i records))
    ≡ cond (not blank) (fields_of next ∷ with_text (map fields_of (drop (i + 1) records))) (with_text (map fields_of (drop (i + 1) records)))
left_from records i next blank within is so =
    let rest : List (List (List ℕ)) = with_text (map fields_of (drop (i + 1) records)) in
    at_drop_more (λ (xs : List Record). with_text (map fields_of xs)) records i next within
    ∙ ap (λ (first : Record). with_text (fields_of first ∷ map fields_of (drop (i + 1) records))) (sym is)
    ∙ ap (λ (b : Bool). cond (not b) (fields_of next ∷ rest) rest) so

-- a record with text comes first of them
pub text_first : (records : List Record) (i : ℕ) (next : Record) → i < length records → next ≡ get_or records i next → is_blank_from 0 (fields_of next) ≡ false →
    with_text (map fields_of (drop i records)) ≡ fields_of next ∷ with_text (map fields_of (drop (i + 1) records))
text_first records i next within is so = left_from records i next false within is so

-- one without text is none of them
pub blank_passed : (records : List Record) (i : ℕ) (next : Record) → i < length records → next ≡ get_or records i next → is_blank_from 0 (fields_of next) ≡ true →
    with_text (map fields_of (drop i records)) ≡ with_text (map fields_of (drop (i + 1) records))
blank_passed records i next within is so = left_from records i next true within is so

-- rows behind which whatever is right for the cells that are left makes all right
pub record IsReadingRows (columns : Columns) (roster : List (List ℕ)) (parents : List ℕ) (scale : Scale) (dating : Dating) (all left : List (List (List ℕ))) (rows : List Row) : Type 0 where
  pub goes : (more : List Row) → AreRowsOf columns roster parents scale dating (length rows + 1) left more → AreRowsOf columns roster parents scale dating 1 all (rows ++ more)

pub reading_starts : (columns : Columns) (roster : List (List ℕ)) (parents : List ℕ) (scale : Scale) (dating : Dating) (all : List (List (List ℕ))) → IsReadingRows columns roster parents scale dating all all []
reading_starts columns roster parents scale dating all = record { goes = λ more right. right }

pub reading_more : (columns : Columns) (roster : List (List ℕ)) (parents : List ℕ) (scale : Scale) (dating : Dating) (all left : List (List (List ℕ))) (cells : List (List ℕ)) (old new : List Row) →
    IsReadingRows columns roster parents scale dating all (cells ∷ left) old → IsRowAdded columns roster parents scale dating cells old new → IsReadingRows columns roster parents scale dating all left new
reading_more columns roster parents scale dating all left cells old new reading added =
    let row : Row = added.0 in
    let count : length new ≡ length old + 1 = ap (λ (rows : List Row). length rows) added.1 ∙ length_push old row in
    record {
      goes = λ more right.
          let next : AreRowsOf columns roster parents scale dating ((length old + 1) + 1) left more = subst (λ (n : ℕ). AreRowsOf columns roster parents scale dating (n + 1) left more) count right in
          let whole : AreRowsOf columns roster parents scale dating 1 all (old ++ (row ∷ more)) = reading.goes (row ∷ more) (added.2, next) in
          let same : old ++ (row ∷ more) ≡ new ++ more = sym (append_assoc old (row ∷ []) more) ∙ ap (λ (rows : List Row). rows ++ more) (sym added.1) in
          subst (λ (rows : List Row). AreRowsOf columns roster parents scale dating 1 all rows) same whole;
    }

append_nil : (rows : List Row) → rows ++ [] ≡ rows
append_nil [] = refl
append_nil (row ∷ rows) = ap (λ (more : List Row). row ∷ more) (append_nil rows)

pub reading_ends : (columns : Columns) (roster : List (List ℕ)) (parents : List ℕ) (scale : Scale) (dating : Dating) (all : List (List (List ℕ))) (rows : List Row) →
    IsReadingRows columns roster parents scale dating all [] rows → AreRowsOf columns roster parents scale dating 1 all rows
reading_ends columns roster parents scale dating all rows reading = subst (λ (list : List Row). AreRowsOf columns roster parents scale dating 1 all list) (append_nil rows) (reading.goes [] tt)
