use Rattle.std.proofs.Common.{◌≡◌, ◌∙◌, sym, ap, ℕ, List, Bor, map, arith}
use Rattle.racp_tables.specs.CellTies.{all_ties, part_ties}
use Rattle.racp_tables.proofs.CellTies.{now, ties_done, ties_step}
use Rattle.racp_tables.proofs.links.ties_of_words.Goals as goal

pub loop-part-preserved : goal.loop-part-preserved
loop-part-preserved c =
    ties_step (part_ties c.args.cell.now.rows.now c.args.cell.now.scale) c.deref-part-items.result.now c.loop-part.part-index _ c.loop-part.ties.items c.push_part.new.ties.items
    (omega (arith, c.loop-part-test.true)) c.loop-part.invariant c.in_ok-push_part.ensures

pub returns : goal.returns
returns c =
    let items : List (Bor (List ℕ)) = c.deref-part-items.result.now in
    let words : map now items ≡ _ = ap (λ (parts : List (Bor (List ℕ))). map now parts) c.deref-part-items.ensures.value ∙ c.in_ok-parts.ensures in
    ap (λ (parts : List (List ℕ)). all_ties (map (part_ties c.args.cell.now.rows.now c.args.cell.now.scale) parts)) (sym words)
    ∙ ties_done (part_ties c.args.cell.now.rows.now c.args.cell.now.scale) items c.loop-part.part-index _ c.loop-part.ties.items (omega (arith, c.loop-part-test.false)) c.loop-part.invariant
