use Rattle.std.proofs.Common.{◌≡◌, ◌++◌, flat_map, string_bytes, drop}
use Rattle.racp_export.specs.MsProject.{link_text}
use Rattle.racp_export.specs.Told.{told_by}
use Rattle.racp_export.proofs.ms_tasks.push_links.Given as goal

abbrev pub invariant-loop-link : goal.invariant-loop-link
invariant-loop-link l = string_bytes l.text ++ flat_map (link_text (told_by l.ground)) (drop l.link-index l.links) ≡ string_bytes l.initial.text ++ flat_map (link_text (told_by l.ground)) l.links
