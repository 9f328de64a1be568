use Rattle.std.proofs.Common.{◌≡◌, ◌++◌, take}
use Rattle.racp_links.specs.Phases.{links_between}
use Rattle.racp_links.proofs.spreading.push_links_between.Given as goal

abbrev pub invariant-loop-before : goal.invariant-loop-before
invariant-loop-before l = l.made.items ≡ l.initial.made.items ++ links_between l.lag (take l.before-index l.firsts) l.seconds
