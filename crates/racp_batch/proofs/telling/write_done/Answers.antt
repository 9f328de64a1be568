use Rattle.std.proofs.Common.{◌≡◌, ◌∙◌, ap, sym, subst, refl, List, ℕ, Some}
use Rattle.std.specs.Prelude.{slice_get}
use Rattle.std.proofs.lemmas.Option.{slice_get-get_or}
use Rattle.std.specs.Io.KnownBytes.{Appends}
use Rattle.racp_batch.specs.Cases.{Matter}
use Rattle.racp_batch.specs.Lines.{row_line}
use Rattle.racp_batch.specs.declared.row.Row.{Row}
use Rattle.racp_batch.specs.Rows.{MayBeOpen}
use Rattle.racp_batch.specs.Tables.{IsTold}
use Rattle.racp_batch.proofs.Told.{told_at}
use Rattle.racp_batch.proofs.telling.write_done.Goals as goal

pub loop-place-preserved : goal.loop-place-preserved
loop-place-preserved g c =
    let calendar = c.args.shared.now.batch.now.calendar in
    let cases = c.args.shared.now.batch.now.cases.now in
    let place = c.loop-place.place in
    let case = c.in-Some-get.case.now in
    let found : slice_get cases place ≡ Some case = slice_get-get_or cases place case c.in-Some-get.ensures.lookup.3.0 ∙ ap Some (sym c.in-Some-get.ensures.lookup.1) in
    let named = subst (λ (cs : List Matter). slice_get cs place ≡ Some case) c.requires found in
    record {
      at = refl;
      told = λ base h. told_at calendar (MayBeOpen g.T.OfCases.unlimited g.T.OfCases.quiet) g.T.OfCases.cases base _ _ place case c.in-Some.done.now
          (subst (λ (n : ℕ). IsTold calendar (MayBeOpen g.T.OfCases.unlimited g.T.OfCases.quiet) g.T.OfCases.cases base (g.W.Write.contents c.loop-place.out) n) c.loop-place.invariant.at (c.loop-place.invariant.told base h))
          named c.in-Some.ensures c.row.ensures.right
          (subst (λ (r : Row). Appends (g.W.Write.contents c.loop-place.out) (g.W.Write.contents c.write_row.new.out) (row_line calendar case r)) c.row.ensures.row c.in_ok-write_row.ensures);
    }
