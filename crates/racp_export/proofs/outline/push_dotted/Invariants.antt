use Rattle.std.proofs.Common.{◌≡◌, ◌++◌, string_bytes, drop}
use Rattle.racp_export.specs.MsProject.{dotted}
use Rattle.racp_export.proofs.outline.push_dotted.Given as goal

abbrev pub invariant-loop-id : goal.invariant-loop-id
invariant-loop-id l = string_bytes l.text ++ dotted (drop l.id-index l.path) ≡ string_bytes l.initial.text ++ dotted l.path
