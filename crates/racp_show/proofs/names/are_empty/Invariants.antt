use Rattle.std.proofs.Common.{◌≡◌, drop, map, string_bytes}
use Rattle.std.specs.List.{list_all}
use Rattle.racp_show.specs.Called.{is_empty}
use Rattle.racp_show.proofs.names.are_empty.Given as goal

abbrev pub invariant-loop-name : goal.invariant-loop-name
invariant-loop-name l = list_all is_empty (map string_bytes (drop l.name-index l.names)) ≡ list_all is_empty (map string_bytes l.names)
