use Rattle.std.proofs.Common.{◌≡◌, ◌∙◌, ap, sym, subst, List, Some, rules}
use Rattle.std.specs.Prelude.{IsTrue, slice_get}
use Rattle.std.proofs.lemmas.Option.{slice_get-get_or}
use Rattle.racp_batch.specs.Cases.{Matter}
use Rattle.racp_batch.specs.Rows.{MayBeOpen}
use Rattle.racp_batch.proofs.Opened.{told_so}
use Rattle.racp_batch.proofs.board.Shared.plan_next.Goals as goal

pub of-requires : goal.of-requires
of-requires g c =
    let cases = c.args.self.now.batch.now.cases.now in
    let place = c.fetch_add-place.result in
    let case = c.in-Some.case.now in
    let tells : IsTrue c.may_tell.result = search rules in
    let found : slice_get cases place ≡ Some case = slice_get-get_or cases place case c.in-Some.ensures.lookup.3.0 ∙ ap Some (sym c.in-Some.ensures.lookup.1) in (
      case,
      subst (λ (cs : List Matter). slice_get cs place ≡ Some case) c.requires found,
      told_so (MayBeOpen g.T.OfCases.unlimited g.T.OfCases.quiet) case c.row-row.result c.row-row.ensures (c.may_tell.ensures tells),
    )
