use Rattle.std.proofs.Common.{◌≡◌, ◌++◌, flat_map, string_bytes, drop}
use Rattle.racp_report.specs.Pages.{choice_row}
use Rattle.racp_report.proofs.choice_table.push_choices.Given as goal

abbrev pub invariant-loop-choice : goal.invariant-loop-choice
invariant-loop-choice l = string_bytes l.text ++ flat_map choice_row (drop l.choice-index l.choices) ≡ string_bytes l.initial.text ++ flat_map choice_row l.choices
