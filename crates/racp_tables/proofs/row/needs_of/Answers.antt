use Rattle.std.proofs.Common.{◌∙◌, sym, ap, ℕ, List, map, string_bytes}
use Rattle.csv.specs.Records.{fields_of}
use Rattle.racp_tables.specs.Assigned.{assigned_said}
use Rattle.racp_tables.specs.Cells.{cell_of, need_at}
use Rattle.racp_tables.proofs.AllNeeds.{all_needs}
use Rattle.racp_tables.proofs.row.needs_of.Goals as goal

pub returns : goal.returns
returns c =
    let cells : List (List ℕ) = fields_of c.args.cells.record.now in
    let columns = rw c.deref.ensures.value at c.in_ok-requests.ensures in
    let whole = rw c.deref-2.ensures.value at c.in_ok-push_named.ensures in
    let said = ap assigned_said (sym c.optional_cell-cell.ensures) ∙ c.in_ok-assigned.ensures in
    rw c.if-cells.false
    (all_needs (map (need_at cells) c.args.cells.columns.now.resources.items) c.in_ok-requests.requests.items c.push_named.new.requests.items
    (assigned_said (cell_of cells c.args.cells.columns.now.assigned)) c.in_ok-assigned.assigned.items (map string_bytes c.args.cells.roster.now) columns said whole)
