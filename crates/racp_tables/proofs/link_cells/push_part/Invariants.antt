use Rattle.std.proofs.Common.{◌≡◌, ℕ, List, Bor, drop, map}
use Rattle.racp_tables.specs.CellTies.{all_ties, behind, trimmed_ties}
use Rattle.racp_tables.proofs.link_cells.push_part.Given as goal

abbrev pub invariant-loop-word : goal.invariant-loop-word
invariant-loop-word l =
    behind l.ties.items (all_ties (map (trimmed_ties l.cell.rows.now l.cell.scale) (map (λ (word : Bor (List ℕ)). word.now) (drop l.word-index l.word-items))))
    ≡ behind l.initial.ties.items (all_ties (map (trimmed_ties l.cell.rows.now l.cell.scale) (map (λ (word : Bor (List ℕ)). word.now) l.word-items)))
