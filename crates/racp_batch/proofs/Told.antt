-- A table grows by a row.
use Rattle.std.proofs.Common.{◌≡◌, ◌∙◌, ◌+◌, ◌<◌, ◌++◌, ◌∷◌, [], ℕ, suc, List, Option, Some, None, Ok, Err, IfOk, Bool, true, false, length, take, get_or, ap, sym, subst, refl, append_assoc, append-nil, arith}
use Rattle.std.specs.Prelude.{Result, slice_get}
use Rattle.std.specs.Io.KnownBytes.{Appends}
use Rattle.std.proofs.Math.Seq.{take-suc}
use Rattle.std.proofs.lemmas.Option.{get_or_from_slice_get, same_Some, slice_get_within}
use Rattle.racp_calendar.specs.declared.calendar.Calendar.{Calendar}
use Rattle.racp_batch.specs.Cases.{Matter}
use Rattle.racp_batch.specs.Places.{IsPlaced, Placed}
use Rattle.racp_batch.specs.Lines.{head_line, row_line}
use Rattle.racp_batch.specs.Rows.{IsRowOf, MayBeOpen}
use Rattle.racp_batch.specs.Tables.{IsListed, IsTable, IsTableRun, IsTold}
use Rattle.racp_batch.specs.declared.batch.BatchFault.{BatchFault}
use Rattle.racp_batch.specs.declared.batch.Ending.{Ending}
use Rattle.racp_batch.specs.declared.row.Row.{Row}

-- the rows of some cases, and then the row of one more
pub listed_on : (calendar : Calendar) (may_be_open : Type 0) (cases : List Matter) (text : List ℕ) (matter : Matter) (row : Row) → IsListed calendar may_be_open cases text → IsRowOf may_be_open matter row → IsListed calendar may_be_open (cases ++ matter ∷ []) (text ++ row_line calendar matter row)
listed_on calendar may_be_open [] text matter row none right = (row, [], right, rw none (sym (append-nil (row_line calendar matter row))), refl)
listed_on calendar may_be_open (first ∷ cases) text matter row (top, rest, is, same, more) right =
    (top, rest ++ row_line calendar matter row, is, ap (λ (t : List ℕ). t ++ row_line calendar matter row) same ∙ append_assoc (row_line calendar first top) rest (row_line calendar matter row), listed_on calendar may_be_open cases rest matter row more right)

-- what is appended after what was appended
pub appends_on : (old mid new : Option (List ℕ)) (a b : List ℕ) → Appends old mid a → Appends mid new b → Appends old new (a ++ b)
appends_on None mid new a b first second = tt
appends_on (Some xs) None new a b first second = absurd first
appends_on (Some xs) (Some ys) None a b first second = absurd second
appends_on (Some xs) (Some ys) (Some zs) a b first second = second ∙ ap (λ (t : List ℕ). t ++ b) first ∙ append_assoc xs a b

-- nothing was appended
pub appends_none : (held : Option (List ℕ)) → Appends held held []
appends_none None = tt
appends_none (Some xs) = sym (append-nil xs)

-- no row was written yet
pub told_none : (calendar : Calendar) (may_be_open : Type 0) (cases : List Matter) (held : Option (List ℕ)) → IsTold calendar may_be_open cases held held 0
told_none calendar may_be_open cases held = record { few = omega arith; lines = []; listed = refl; appended = appends_none held }

-- one row more
pub told_on : (calendar : Calendar) (may_be_open : Type 0) (cases : List Matter) (base old new : Option (List ℕ)) (place : ℕ) (matter : Matter) (row : Row) → IsTold calendar may_be_open cases base old place → place < length cases → matter ≡ get_or cases place matter → IsRowOf may_be_open matter row → Appends old new (row_line calendar matter row) → IsTold calendar may_be_open cases base new (place + 1)
told_on calendar may_be_open cases base old new place matter row told within is right grown =
    let next : suc place ≡ place + 1 = omega arith in
    let front : take (place + 1) cases ≡ take place cases ++ matter ∷ [] =
    subst (λ (n : ℕ). take n cases ≡ take place cases ++ matter ∷ []) next (take-suc cases place matter within ∙ ap (λ (m : Matter). take place cases ++ m ∷ []) (sym is)) in
    record {
      few = omega arith;
      lines = told.lines ++ row_line calendar matter row;
      listed = subst (λ (cs : List Matter). IsListed calendar may_be_open cs (told.lines ++ row_line calendar matter row)) (sym front) (listed_on calendar may_be_open (take place cases) told.lines matter row told.listed right);
      appended = appends_on base old new told.lines (row_line calendar matter row) told.appended grown;
    }

-- the first row, and then the others
pub table_of : (calendar : Calendar) (may_be_open : Type 0) (cases : List Matter) (old mid new : Option (List ℕ)) (rows : ℕ) → Appends old mid (head_line calendar) → IsTold calendar may_be_open cases mid new rows → IsTable calendar may_be_open cases old new rows
table_of calendar may_be_open cases old mid new rows head told = record {
  few = told.few;
  lines = told.lines;
  listed = told.listed;
  appended = appends_on old mid new (head_line calendar) told.lines head told.appended;
}

-- one row more, which is right of the case at its place
pub told_at : (calendar : Calendar) (may_be_open : Type 0) (cases : List Matter) (base old new : Option (List ℕ)) (place : ℕ) (matter : Matter) (placed : Placed) → IsTold calendar may_be_open cases base old place → slice_get cases place ≡ Some matter → placed.place ≡ place → IsPlaced may_be_open cases placed → Appends old new (row_line calendar matter placed.row) → IsTold calendar may_be_open cases base new (place + 1)
told_at calendar may_be_open cases base old new place matter placed told found at right grown =
    let same : right.0 ≡ matter = same_Some _ _ (sym right.1 ∙ (ap (slice_get cases) at ∙ found)) in
    told_on calendar may_be_open cases base old new place matter placed.row told (slice_get_within cases place matter found) (sym (get_or_from_slice_get cases place matter matter found))
    (subst (λ (m : Matter). IsRowOf may_be_open m placed.row) same right.2) grown

-- what was written of a table that ended so; its rows by a calendar that is the same
pub run_of : (calendar shared : Calendar) (unlimited quiet : Bool) (cases : List Matter) (old mid new : Option (List ℕ)) (told : Result ℕ BatchFault) (ending : Result Ending BatchFault) → shared ≡ calendar → Appends old mid (head_line calendar) → IfOk told (IsTold shared (MayBeOpen unlimited quiet) cases mid new) →
    IfOk ending (λ e. told ≡ Ok e.rows) → IfOk ending (λ e. e.is_whole ≡ true → e.rows ≡ length cases) → IfOk ending (λ e. e.is_whole ≡ false → quiet ≡ false) → IsTableRun calendar unlimited quiet cases old new ending
run_of calendar shared unlimited quiet cases old mid new told (Err fault) by head rows same whole asked = tt
run_of calendar shared unlimited quiet cases old mid new told (Ok ending) by head rows same whole asked =
    let told_by = subst (λ (c : Calendar). IfOk told (IsTold c (MayBeOpen unlimited quiet) cases mid new)) by rows in
    (table_of calendar (MayBeOpen unlimited quiet) cases old mid new ending.rows head (subst (λ (t : Result ℕ BatchFault). IfOk t (IsTold calendar (MayBeOpen unlimited quiet) cases mid new)) same told_by), whole, asked)
