use Rattle.std.proofs.Common.{◌≡◌, drop, map, string_bytes}
use Rattle.std.specs.List.{flat_map}
use Rattle.racp_tables.specs.Joined.{all_names, own_names, with_names}
use Rattle.racp_tables.proofs.shared.all_names.Given as goal

abbrev pub invariant-loop-part : goal.invariant-loop-part
invariant-loop-part l = with_names (map string_bytes l.names.items) (flat_map own_names (drop l.part-index l.parts)) ≡ all_names l.parts
