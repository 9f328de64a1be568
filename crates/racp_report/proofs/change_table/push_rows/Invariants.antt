use Rattle.std.proofs.Common.{◌≡◌, ◌++◌, flat_map, map, string_bytes}
use Rattle.racp_report.specs.Pages.{change_row}
use Rattle.racp_report.proofs.change_table.push_rows.Given as goal

abbrev pub invariant-loop-line : goal.invariant-loop-line
invariant-loop-line l =
    string_bytes l.text ≡ string_bytes l.initial.text ++ flat_map change_row (map (λ line. line.now) l.yielded)
