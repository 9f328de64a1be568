use Rattle.std.proofs.Common.{◌≡◌, ◌++◌, take}
use Rattle.racp_links.specs.Phases.{links_to}
use Rattle.racp_links.proofs.spreading.push_links_to.Given as goal

abbrev pub invariant-loop-after : goal.invariant-loop-after
invariant-loop-after l = l.made.items ≡ l.initial.made.items ++ links_to l.lag (take l.after-index l.seconds) l.before
