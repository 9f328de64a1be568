use Rattle.std.proofs.Common.{◌≡◌, ◌≤◌, ◌+◌, drop, flat_map, map, string_bytes}
use Rattle.std.specs.Prelude.{fold}
use Rattle.csv.specs.Records.{fields_of}
use Rattle.racp_links.specs.Phases.{leaf_items}
use Rattle.racp_tables.specs.Records.{with_text}
use Rattle.racp_tables.specs.Rosters.{names_in, roster_said, with_name}
use Rattle.racp_tables.proofs.roster.roster_of.Given as goal

abbrev pub invariant-loop-record : goal.invariant-loop-record
invariant-loop-record l =
    (l.place ≤ l.record-index)
    × (fold with_name (map string_bytes l.roster.items) (flat_map (names_in l.column) (leaf_items l.parents (l.place + 1) (with_text (map fields_of (drop l.record-index l.records)))))
    ≡ roster_said l.column l.parents (with_text (map fields_of l.records)))
