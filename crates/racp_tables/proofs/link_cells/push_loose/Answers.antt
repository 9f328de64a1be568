use Rattle.std.proofs.Common.{◌≡◌, ◌∙◌, sym, ap, ℕ, List, Bor, true, false, map, not, arith, rules}
use Rattle.std.specs.Prelude.{filter}
use Rattle.racp_tables.specs.CellTies.{all_ties, behind, is_some_text, one_blank, single_tie}
use Rattle.racp_tables.specs.Pieces.{between}
use Rattle.racp_tables.proofs.CellTies.{loose_done, loose_skip, loose_step, now}
use Rattle.racp_tables.proofs.link_cells.push_loose.Goals as goal
use Rattle.racp_tables.proofs.link_cells.push_loose.Goals.{then-not-is_empty+in_ok-push_part_word, else-not-is_empty}

pub loop-part-preserved : goal.loop-part-preserved
loop-part-preserved c =
    elim c.if-not-is_empty.branch [
      | then-not-is_empty+in_ok-push_part_word w ↦
          let empty : c.is_empty.result ≡ false = search rules in
          rw w.ties-is
          (loose_step is_some_text (single_tie c.args.cell.now.rows.now c.args.cell.now.scale) c.deref-part-items.result.now c.loop-part.part-index _ c.loop-part.ties.items _
          (omega (arith, c.loop-part-test.true)) c.loop-part.invariant (ap not (sym c.is_empty.ensures ∙ empty)) w.in_ok-push_part_word.ensures)
      | else-not-is_empty w ↦
          let empty : c.is_empty.result ≡ true = search rules in
          rw w.ties-is
          (loose_skip is_some_text (single_tie c.args.cell.now.rows.now c.args.cell.now.scale) c.deref-part-items.result.now c.loop-part.part-index _ c.loop-part.ties.items
          (omega (arith, c.loop-part-test.true)) c.loop-part.invariant (ap not (sym c.is_empty.ensures ∙ empty)))
    ]

pub returns : goal.returns
returns c =
    let items : List (Bor (List ℕ)) = c.deref-part-items.result.now in
    let words : map now items ≡ between 32 (one_blank c.args.word.now) =
    ap (λ (parts : List (Bor (List ℕ))). map now parts) c.deref-part-items.ensures.value ∙ c.in_ok-parts.ensures ∙ ap (between 32) (c.as_str.ensures.value ∙ c.in_ok-blanks.ensures) in
    ap (λ (parts : List (List ℕ)). behind c.args.ties.now.items (all_ties (map (single_tie c.args.cell.now.rows.now c.args.cell.now.scale) (filter is_some_text parts)))) (sym words)
    ∙ loose_done is_some_text (single_tie c.args.cell.now.rows.now c.args.cell.now.scale) items c.loop-part.part-index _ c.loop-part.ties.items (omega (arith, c.loop-part-test.false)) c.loop-part.invariant
