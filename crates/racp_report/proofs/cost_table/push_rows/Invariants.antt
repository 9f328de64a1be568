use Rattle.std.proofs.Common.{◌≡◌, ◌++◌, flat_map, string_bytes, drop}
use Rattle.racp_report.specs.Pages.{cost_row}
use Rattle.racp_report.proofs.cost_table.push_rows.Given as goal

abbrev pub invariant-loop-step : goal.invariant-loop-step
invariant-loop-step l = string_bytes l.text ++ flat_map (cost_row l.calendar) (drop l.step-index l.costs) ≡ string_bytes l.initial.text ++ flat_map (cost_row l.calendar) l.costs
