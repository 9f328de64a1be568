use Rattle.std.proofs.Common.{◌≡◌, ℕ, List, Bor, drop, map}
use Rattle.std.specs.Prelude.{filter}
use Rattle.racp_tables.specs.CellTies.{all_ties, behind, is_some_text, single_tie}
use Rattle.racp_tables.proofs.link_cells.push_loose.Given as goal

abbrev pub invariant-loop-part : goal.invariant-loop-part
invariant-loop-part l =
    behind l.ties.items (all_ties (map (single_tie l.cell.rows.now l.cell.scale) (filter is_some_text (map (λ (part : Bor (List ℕ)). part.now) (drop l.part-index l.part-items)))))
    ≡ behind l.initial.ties.items (all_ties (map (single_tie l.cell.rows.now l.cell.scale) (filter is_some_text (map (λ (part : Bor (List ℕ)). part.now) l.part-items))))
