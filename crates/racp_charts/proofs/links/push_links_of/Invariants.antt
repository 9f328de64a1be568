use Rattle.std.proofs.Common.{◌≡◌, ◌++◌, string_bytes, drop, flat_map}
use Rattle.racp_charts.specs.Links.{link_from}
use Rattle.racp_charts.proofs.links.push_links_of.Given as goal

abbrev pub invariant-loop-predecessor : goal.invariant-loop-predecessor
invariant-loop-predecessor l = string_bytes l.text ++ flat_map (link_from l.span l.rows l.place l.task) (drop l.predecessor-index l.before) ≡ string_bytes l.initial.text ++ flat_map (link_from l.span l.rows l.place l.task) l.before
