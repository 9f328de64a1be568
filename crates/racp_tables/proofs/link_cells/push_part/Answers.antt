use Rattle.std.proofs.Common.{◌≡◌, ◌∙◌, sym, ap, ℕ, List, Bor, map, arith}
use Rattle.racp_tables.specs.CellTies.{all_ties, behind, trimmed_ties}
use Rattle.racp_tables.proofs.CellTies.{now, ties_done, ties_step}
use Rattle.racp_tables.proofs.link_cells.push_part.Goals as goal

pub loop-word-preserved : goal.loop-word-preserved
loop-word-preserved c =
    ties_step (trimmed_ties c.args.cell.now.rows.now c.args.cell.now.scale) c.deref-word-items.result.now c.loop-word.word-index _ c.loop-word.ties.items c.push_word.new.ties.items
    (omega (arith, c.loop-word-test.true)) c.loop-word.invariant (rw c.trim.ensures.trim at c.in_ok-push_word.ensures)

pub returns : goal.returns
returns c =
    let items : List (Bor (List ℕ)) = c.deref-word-items.result.now in
    let words : map now items ≡ _ = ap (λ (parts : List (Bor (List ℕ))). map now parts) c.deref-word-items.ensures.value ∙ c.in_ok-words.ensures in
    ap (λ (parts : List (List ℕ)). behind c.args.ties.now.items (all_ties (map (trimmed_ties c.args.cell.now.rows.now c.args.cell.now.scale) parts))) (sym words)
    ∙ ties_done (trimmed_ties c.args.cell.now.rows.now c.args.cell.now.scale) items c.loop-word.word-index _ c.loop-word.ties.items (omega (arith, c.loop-word-test.false)) c.loop-word.invariant
