use Rattle.std.proofs.Common.{◌≡◌, ◌++◌, string_bytes}
use Rattle.racp_export.specs.MsProject.{resources_before}
use Rattle.racp_export.specs.Told.{told_by}
use Rattle.racp_export.proofs.ms_project.push_all_resources.Given as goal

abbrev pub invariant-loop-k : goal.invariant-loop-k
invariant-loop-k l = string_bytes l.text ≡ string_bytes l.initial.text ++ resources_before (told_by l.ground) l.k
