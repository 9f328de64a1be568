use Rattle.std.proofs.Common.{◌≡◌, ◌++◌, flat_map, string_bytes, drop}
use Rattle.racp_whatif.specs.Lines.{finding_line}
use Rattle.racp_whatif.proofs.lines.push_findings.Given as goal

abbrev pub invariant-loop-finding : goal.invariant-loop-finding
invariant-loop-finding l = string_bytes l.text ++ flat_map (finding_line l.called.names.now l.called.jobs l.base) (drop l.finding-index l.findings) ≡ string_bytes l.initial.text ++ flat_map (finding_line l.called.names.now l.called.jobs l.base) l.findings
