use Rattle.std.proofs.Common.{◌≡◌, ◌+◌, ap, List, length, arith}
use Rattle.racp_tables.specs.declared.row.Row.{Row}
use Rattle.racp_tables.proofs.csv_rows.push_row.Goals as goal

pub returns : goal.returns
returns c =
    let many = ap (λ (rows : List Row). length rows) c.deref.ensures.value in
    let place : c.len-place.result ≡ length c.args.rows.now.items = omega (arith, many, c.deref.ensures.len, c.len-place.ensures) in
    let number : c.saturating_add-number.result ≡ length c.args.rows.now.items + 1 =
    omega (arith, place, c.saturating_add-number.ensures, c.if-number-gt-MOST_ROWS.false) in
    (c.in_ok-row.row, c.in_ok-keep_row.ensures, rw place at (rw c.in_ok-is_phase_at.ensures at (rw number at c.in_ok-row.ensures)))
