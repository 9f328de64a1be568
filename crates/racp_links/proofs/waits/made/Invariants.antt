use Rattle.std.proofs.Common.{take}
use Rattle.racp_links.specs.Faults.{AreMadeOf}
use Rattle.racp_links.proofs.waits.made.Given as goal

abbrev pub invariant-loop-link : goal.invariant-loop-link
invariant-loop-link l = AreMadeOf l.durations (take l.link-index l.links) l.made
