use Rattle.std.proofs.Common.{◌∙◌, ◌++◌, ap, flat_map, string_bytes}
use Rattle.std.proofs.lemmas.Iterator.Consumers.{YieldsList-end}
use Rattle.std.proofs.lemmas.Iterator.Splits.{YieldsList-from_lines}
use Rattle.racp_report.specs.Pages.{change_row}
use Rattle.racp_report.proofs.change_table.push_rows.Goals as goal

pub returns : goal.returns
returns c =
    let end = YieldsList-end (YieldsList-from_lines c.args.changes.now cc) c.loop-line.yielded _ c.loop-line.yielded_by _ _ c.in-None.is c.next.ensures.steps in
    c.loop-line.invariant ∙ ap (λ found. string_bytes c.args.text.now ++ flat_map change_row found) end.0
