use Rattle.std.proofs.Common.{◌≡◌, ◌++◌, ◌∙◌, List, ℕ, OnOk, ap, append-nil, string_bytes, subst, sym}
use Rattle.racp_report.specs.Pages.{change_cells, change_row}
use Rattle.racp_report.proofs.Halves.{no_row, row_is}
use Rattle.racp_report.proofs.change_table.push_row.Goals as goal

pub returns-in-Some : goal.returns-in-Some
returns-in-Some c =
    let is : change_row c.args.line.now ≡ change_cells c.in-Some.change.now c.in-Some.outcome.now =
    row_is c.args.line.now c.split_once.result _ c.split_once.ensures.cases c.in-Some.is in
    subst (λ (row : List ℕ). OnOk c.push_cells.result (string_bytes c.push_cells.new.text ≡ string_bytes c.args.text.now ++ row)) (sym is) c.push_cells.ensures

pub returns-in-None : goal.returns-in-None
returns-in-None c =
    sym (append-nil _) ∙ ap (λ (row : List ℕ). string_bytes c.args.text.now ++ row) (sym (no_row c.args.line.now c.split_once.result c.split_once.ensures.cases c.in-None.is))
