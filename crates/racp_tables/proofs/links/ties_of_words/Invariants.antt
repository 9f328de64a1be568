use Rattle.std.proofs.Common.{◌≡◌, ℕ, List, Bor, drop, map}
use Rattle.racp_tables.specs.CellTies.{all_ties, behind, part_ties}
use Rattle.racp_tables.proofs.links.ties_of_words.Given as goal

abbrev pub invariant-loop-part : goal.invariant-loop-part
invariant-loop-part l =
    behind l.ties.items (all_ties (map (part_ties l.cell.rows.now l.cell.scale) (map (λ (part : Bor (List ℕ)). part.now) (drop l.part-index l.part-items))))
    ≡ all_ties (map (part_ties l.cell.rows.now l.cell.scale) (map (λ (part : Bor (List ℕ)). part.now) l.part-items))
