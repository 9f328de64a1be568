use Rattle.std.proofs.Common.{◌∙◌, ap, sym, List, map, string_bytes}
use Rattle.std.proofs.lemmas.Result.{IfOk-weaker}
use Rattle.racp_tables.proofs.csv_rows.table_below.Goals as goal

pub returns : goal.returns
returns c =
    let parents = c.deref-3.ensures.value ∙ sym c.deref-5.ensures.value in
    let named = ap (λ (list : List _). map string_bytes list) c.deref-4.ensures.value ∙ c.in_ok-roster.ensures in
    IfOk-weaker c.table_of.result _ _
    (λ table is. (
      c.in_ok-columns.columns,
      c.in_ok-outline.outline,
      c.deref-5.result.now,
      c.deref-6.result.now,
      rw (parents) at (rw named at (rw (sym c.deref-6.ensures.value) at c.in_ok-rows.ensures)),
      is,
    ))
    c.table_of.ensures
