use Rattle.std.proofs.Common.{◌≡◌, sym, ◌∙◌, ap, ◌+◌, List, [], drop, map, string_bytes, arith}
use Rattle.std.proofs.lemmas.List.{drop_all}
use Rattle.csv.specs.Records.{Row, fields_of}
use Rattle.racp_tables.specs.Records.{with_text}
use Rattle.racp_tables.proofs.RowsRead.{blank_passed, reading_ends, reading_more, text_first}
use Rattle.racp_tables.proofs.csv_rows.rows_of.Goals as goal
use Rattle.racp_tables.proofs.csv_rows.rows_of.Goals.{then-not-is_empty_from+in_ok-push_row, else-not-is_empty_from}

pub loop-record-preserved : goal.loop-record-preserved
loop-record-preserved c =
    let columns = c.args.taken.columns.now in
    let roster = map string_bytes c.args.taken.roster.now in
    let parents = c.args.taken.parents.now in
    let all = with_text (map fields_of c.args.records.now) in
    let left = with_text (map fields_of (drop (c.loop-record.record-index + 1) c.args.records.now)) in
    let before = c.loop-record.rows.items in
    elim c.if-not-is_empty_from.branch [
      | then-not-is_empty_from+in_ok-push_row w ↦
          let first = text_first c.args.records.now c.loop-record.record-index c.record-item.result c.loop-record-test.true c.record-item.is (sym c.is_empty_from.ensures ∙ w.if-not-is_empty_from.true) in
          rw w.rows-is (reading_more columns roster parents c.args.taken.scale c.args.taken.dating all left (fields_of c.record-item.result) before w.push_row.new.rows.items
          (rw first at c.loop-record.invariant) w.in_ok-push_row.ensures)
      | else-not-is_empty_from w ↦
          let passed = blank_passed c.args.records.now c.loop-record.record-index c.record-item.result c.loop-record-test.true c.record-item.is (sym c.is_empty_from.ensures ∙ w.if-not-is_empty_from.false) in
          rw w.rows-is (rw passed at c.loop-record.invariant)
    ]

pub returns : goal.returns
returns c =
    let none : drop c.loop-record.record-index c.args.records.now ≡ [] = drop_all c.loop-record.record-index c.args.records.now (omega (arith, c.loop-record-test.false)) in
    let last : with_text (map fields_of (drop c.loop-record.record-index c.args.records.now)) ≡ [] = ap (λ (rest : List Row). with_text (map fields_of rest)) none in
    reading_ends c.args.taken.columns.now (map string_bytes c.args.taken.roster.now) c.args.taken.parents.now c.args.taken.scale c.args.taken.dating (with_text (map fields_of c.args.records.now)) c.loop-record.rows.items
    (rw last at c.loop-record.invariant)
