use Rattle.racp_links.specs.PhaseFaults.{AreSpreadableBefore}
use Rattle.racp_links.proofs.spreading.check_links.Given as goal

abbrev pub invariant-loop-place : goal.invariant-loop-place
invariant-loop-place l = AreSpreadableBefore l.parents l.links l.place
