-- A piece that came in is out no more.
use Rattle.std.proofs.Common.{ℕ, ◌<◌, List, [], length, slice_set, Option, Some, None, Contains, ◌∷◌, refl, sym, subst, arith}
use Rattle.std.proofs.lemmas.List.{length-set, get_or-set_same}
use Rattle.racp_model.specs.Window.{Bounds}
use Rattle.racp_search.specs.Truth.{SearchPiece, SearchFinding, rest_windows}
use Rattle.racp_core.specs.Machine.{Machine, QuestionRow, row_at, no_row}
use Rattle.racp_core.specs.Steps.{IsBack, IsReturned, IsAnswered, IsOut, out_of, windows_before}
use Rattle.racp_core.specs.Replies.{IsMerged, IsHanded, IsGivenBack}
use Rattle.racp_core.specs.declared.replies.Merged.{Merged}
use Rattle.racp_core.specs.declared.replies.Merged.TheVariants.{Taken, Stale}
use Rattle.racp_desk.specs.Log.{Tally}
use Rattle.racp_desk.specs.Desk.{Counts, IsIn}
use Rattle.racp_desk.proofs.Pieces.{others_differ}

module _ (t : Tally) (old new : Machine) (piece : SearchPiece) (h : Counts t old) where
  gone : (row : QuestionRow) (windows : List Bounds) → IsOut old piece → IsBack (out_of piece) windows (row_at old.asked piece.index) row → Contains row.out (out_of piece) → ⊥
  gone row windows out back c = others_differ (row_at old.asked piece.index).out row.out (out_of piece) back.2 (h.once piece.index piece.number out.0) (out_of piece) c refl

  pub returned_in : (windows : List Bounds) → IsReturned old piece windows new → IsIn new piece
  returned_in windows step still =
      let row = step.row.0 in
      let there : Contains (row_at (slice_set old.asked piece.index row) piece.index).out (out_of piece) = subst (λ (m : Machine). Contains (row_at m.asked piece.index).out (out_of piece)) step.row.2 still.2 in
      gone row (windows_before old.least piece.index windows) step.out step.row.1 (rw (get_or-set_same old.asked piece.index row no_row step.out.0) at there)

  pub answered_in : (starts : List ℕ) → IsAnswered old piece starts new → IsIn new piece
  answered_in starts step still =
      let row = step.row.0 in
      let shutting = step.row.2 in
      let place : piece.index < length (slice_set old.asked piece.index row) = (let e = length-set old.asked piece.index row in let o = step.out.0 in omega (arith, e, o)) in
      let there : Contains (row_at (slice_set old.asked piece.index row) piece.index).out (out_of piece) =
      subst (λ (r : QuestionRow). Contains r.out (out_of piece)) (shutting.after piece.index (omega arith) place) still.2 in
      gone row [] step.out step.row.1 (rw (get_or-set_same old.asked piece.index row no_row step.out.0) at there)

pub merged_in : (t : Tally) (old new : Machine) (finding : SearchFinding) (found : Option (List ℕ)) → Counts t old → IsMerged old finding found new → IsIn new finding.piece
merged_in t old new finding None h step = returned_in t old new finding.piece h (rest_windows finding.piece.question.window finding.rest) step
merged_in t old new finding (Some starts) h step = answered_in t old new finding.piece h starts step

-- whatever is answered of a finding, and of a piece that is given back
pub handed_in : (t : Tally) (old new : Machine) (finding : SearchFinding) (merged : Merged) → Counts t old → IsHanded old finding merged new → IsIn new finding.piece
handed_in t old new finding Taken h step = merged_in t old new finding finding.found h step
handed_in t old new finding Stale h step = subst (λ (m : Machine). IsIn m finding.piece) (sym step.1) step.0

pub given_in : (t : Tally) (old new : Machine) (piece : SearchPiece) (merged : Merged) → Counts t old → IsGivenBack old piece merged new → IsIn new piece
given_in t old new piece Taken h step = returned_in t old new piece h (piece.question.window ∷ []) step
given_in t old new piece Stale h step = subst (λ (m : Machine). IsIn m piece) (sym step.1) step.0
