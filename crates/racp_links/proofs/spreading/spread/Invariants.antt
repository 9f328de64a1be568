use Rattle.std.proofs.Common.{◌≡◌, take}
use Rattle.racp_links.specs.Phases.{all_leaf_links}
use Rattle.racp_links.proofs.spreading.spread.Given as goal

abbrev pub invariant-loop-link : goal.invariant-loop-link
invariant-loop-link l = l.made.items ≡ all_leaf_links l.parents (take l.link-index l.links)
