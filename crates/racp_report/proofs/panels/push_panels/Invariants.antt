use Rattle.std.proofs.Common.{◌≡◌, ◌++◌, string_bytes, drop, flat_map}
use Rattle.racp_report.specs.Drawings.{panel_figure}
use Rattle.racp_report.proofs.panels.push_panels.Given as goal

abbrev pub invariant-loop-choice : goal.invariant-loop-choice
invariant-loop-choice l = string_bytes l.text ++ flat_map (panel_figure l.span) (drop l.choice-index l.choices) ≡ string_bytes l.initial.text ++ flat_map (panel_figure l.span) l.choices
