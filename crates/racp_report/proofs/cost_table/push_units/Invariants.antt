use Rattle.std.proofs.Common.{◌≡◌, ◌++◌, flat_map, string_bytes, drop}
use Rattle.racp_report.specs.Pages.{unit_text}
use Rattle.racp_report.proofs.cost_table.push_units.Given as goal

abbrev pub invariant-loop-count : goal.invariant-loop-count
invariant-loop-count l = string_bytes l.text ++ flat_map unit_text (drop l.count-index l.units) ≡ string_bytes l.initial.text ++ flat_map unit_text l.units
