use Rattle.std.proofs.Common.{◌≡◌, ◌++◌, drop, string_bytes}
use Rattle.std.specs.List.{flat_map}
use Rattle.racp_tables.specs.Names.{line_above}
use Rattle.racp_tables.proofs.names.push_headings.Given as goal

abbrev pub invariant-loop-heading : goal.invariant-loop-heading
invariant-loop-heading l = string_bytes l.text ++ flat_map (line_above l.place) (drop l.heading-index l.headings) ≡ string_bytes l.initial.text ++ flat_map (line_above l.place) l.headings
