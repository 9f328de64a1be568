use Rattle.std.proofs.Common.{◌≡◌, map, take}
use Rattle.racp_links.specs.Phases.{numbered}
use Rattle.racp_links.proofs.numbering.renumbered.Given as goal

abbrev pub invariant-loop-link : goal.invariant-loop-link
invariant-loop-link l = l.made.items ≡ map (numbered l.parents) (take l.link-index l.links)
