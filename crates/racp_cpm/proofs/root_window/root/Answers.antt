use Rattle.std.proofs.Common.{slice_index, sym, subst, ◌∙◌}
use Rattle.racp_model.specs.Path.{IsEarly}
use Rattle.racp_model.specs.Schedule.{EndsBy}
use Rattle.racp_cpm.proofs.Ends.{late_found, none_found}
use Rattle.racp_cpm.proofs.root_window.root.Goals as goal

pub returns : goal.returns
returns c =
    let net = c.args.net.now in
    let due = slice_index c.args.due.now in
    let ends : EndsBy net due c.in_ok-lower.lower = none_found net due c.in_ok-lower.lower c.first_late.result (sym c.if-is_some.false ∙ c.is_some.ensures) c.first_late.ensures in
    record {
      early = subst (IsEarly net (slice_index c.args.release.now)) (sym c.in_ok-window_above.ensures.0) c.in_ok-lower.ensures;
      late = c.in_ok-window_above.ensures.1;
      ends = subst (EndsBy net due) (sym c.in_ok-window_above.ensures.0) ends;
    }

pub returns-then-is_some : goal.returns-then-is_some
returns-then-is_some c =
    let due = slice_index c.args.due.now in
    let found = late_found c.args.net.now due c.in_ok-lower.lower c.first_late.result (sym c.if-is_some.true ∙ c.is_some.ensures) c.first_late.ensures in
    (c.in_ok-lower.lower, c.in_ok-lower.ensures, found.0, found.1)

pub window_above-requires-clause-ends : goal.window_above-requires-clause-ends
window_above-requires-clause-ends c = none_found c.args.net.now (slice_index c.args.due.now) c.in_ok-lower.lower c.first_late.result (sym c.if-is_some.false ∙ c.is_some.ensures) c.first_late.ensures
